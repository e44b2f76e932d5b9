use Rattle.board.proofs.Beside.{kept_apart}
use Rattle.compare.proofs.compare.Goals as goal

pub returns : goal.returns
returns g c =
    record {
      left_ran = c.run_new.ensures;
      right_ran = c.run_new-2.ensures;
      apart = kept_apart g.D.Digest.meaning c.args.key (g.M.Memory.words c.args.left.memory) (g.N.Memory.words c.args.right.memory) c.args.left.run.now c.args.right.run.now;
    }
