use Rattle.board.proofs.Beside.{kept_apart}
use Rattle.compare.specs.Replays.{calls_in}
use Rattle.compare.proofs.replay.compare_files.Goals as goal

pub returns : goal.returns
returns g c =
    record {
      left_ran = c.run_file.ensures.ran;
      right_ran = c.run_file-2.ensures.ran;
      apart = kept_apart g.D.Digest.meaning c.args.key (g.M.Memory.words c.args.left.memory) (g.N.Memory.words c.args.right.memory) (calls_in c.args.left.run.now) (calls_in c.args.right.run.now);
    }
