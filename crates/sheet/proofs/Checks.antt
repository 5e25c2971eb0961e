-- What the answer of a check call tells of its test. Assumes nothing.
use Rattle.std.proofs.Common.{◌≡◌, ℕ, Bool, true, false, ◌≢◌, refl, arith}
use Rattle.faults.specs.declared.Fault.TheVariants.{TooLarge}
use Rattle.faults.specs.Refusals.{bare}

pub passed : (t : Bool) (r : ℕ) → r ≡ bare t TooLarge → r ≡ 0 → t ≡ false
passed true r e z = absurd (omega arith)
passed false r e z = refl

pub refused : (t : Bool) (r : ℕ) → r ≡ bare t TooLarge → r ≢ 0 → t ≡ true
refused true r e z = refl
refused false r e z = absurd (z e)
