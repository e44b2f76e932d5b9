use mathlib.Core.Path.{refl}
use Rattle.boundary.proofs.boundary_runs.Goals as goal

pub returns : goal.returns
returns c = record { rows = refl; hold = refl }
