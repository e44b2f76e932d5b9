use Rattle.board.proofs.Examples.{led_twice}
use Rattle.board.proofs.laws.a_life_is_led_twice.Goals as goal

pub returns : goal.returns
returns c = led_twice
