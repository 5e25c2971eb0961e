-- The one answer of opening a file, and a way to work it out. Assumes nothing.
use Rattle.std.specs.Prelude.{◌≡◌, ℕ, zero, suc, ◌%◌, Bool, if◌then◌else◌, ◌&&◌, List, [], ◌∷◌, length, Ok, Err, Result, ◌==◌, nat_le, nat_lt}
use Rattle.faults.specs.declared.Fault.{Fault}
use Rattle.faults.specs.declared.Fault.TheVariants.{BadLength, BadHeader, BadLink, BadRecord, EndlessChain}
use Rattle.faults.specs.Refusals.{refusal, told}
use Rattle.sheetfile.specs.Format.{byte, first_of, switches_of, equations_of, variables_of, count_of, part_of, next_of, sound}
use Rattle.sheetfile.specs.Opening.{Judged}

abbrev pub is_whole : List ℕ → Bool
is_whole f = nat_le 8 (length f) && (nat_le (length f) 8192 && length f % 8 == 0)

abbrev pub is_headed : List ℕ → Bool
is_headed f = nat_le (switches_of f) 16 && (nat_le (equations_of f) 64 && (nat_le (variables_of f) 64 && (byte f 5 == 0 && (byte f 6 == 0 && byte f 7 == 0))))

abbrev pub preceded : ℕ → Result (List ℕ) Fault → Result (List ℕ) Fault
preceded n (Ok ns) = Ok (n ∷ ns)
preceded n (Err e) = Err e

-- the walk from record n, over fewer than k records
unfoldable pub walked : List ℕ → ℕ → ℕ → Result (List ℕ) Fault
walked f zero n = Err EndlessChain
walked f (suc k) n =
    if n == 0 then Ok [] else
    if nat_lt (count_of f) (next_of f n) then Err (BadLink n) else
    if sound (part_of f n) then preceded n (walked f k (next_of f n)) else Err (BadRecord n)

unfoldable pub opening : List ℕ → Result (List ℕ) Fault
opening f =
    if is_whole f then (
    if is_headed f then (
    if nat_lt (count_of f) (first_of f) then Err (BadLink 0) else
    walked f (suc (count_of f)) (first_of f)) else Err BadHeader) else Err BadLength

-- every file has an answer, the one worked out, and no other
abbrev pub OneAnswer : Type 0
OneAnswer = (f : List ℕ) → Judged f (opening f) × ((r : Result (List ℕ) Fault) → Judged f r → r ≡ opening f)

-- the file is refused
pub record Refused (f : List ℕ) (e : Fault) : Type 0 where
  pub answer : told (opening f) ≡ Err (refusal e)
  pub right : Judged f (Err e)
