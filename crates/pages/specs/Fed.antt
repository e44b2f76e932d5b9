-- Words fed to a digest, one after another.
use Rattle.std.specs.Prelude.{◌≡◌, ℕ, ◌+◌, List, length}
use Rattle.digest.specs.Meaning.{Meaning, fed}

-- from one state and count of a digest to another by these words
pub record Fed (m : Meaning) (s : m.State) (n : ℕ) (ws : List ℕ) (s' : m.State) (n' : ℕ) : Type 0 where
  pub state : s' ≡ fed m s n ws
  pub count : n' ≡ n + length ws
