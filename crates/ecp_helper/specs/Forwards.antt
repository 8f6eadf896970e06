-- What each answer of the first step of a turn says.
use Rattle.std.specs.Prelude.{◌≡◌, []}
use Rattle.ecp_helper.specs.Helpers.{HelperState}
use Rattle.ecp_helper.specs.Steps.{GoesOn, StaysHeld}
use Rattle.ecp_helper.specs.declared.helper.taking.Forwarded.{Forwarded}
use Rattle.ecp_helper.specs.declared.helper.taking.Forwarded.TheVariants.{Passed, Full, Nothing}

abbrev pub Forwards : HelperState → HelperState → Forwarded → Type 0
Forwards old new Passed = GoesOn old new
Forwards old new (Full to) = StaysHeld old new to
Forwards old new Nothing = (old.added ≡ []) × (new ≡ old)
