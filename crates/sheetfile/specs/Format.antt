-- The bytes of a sheet file: its header, its records, and the call that a record asks for. Assumes nothing.
use Rattle.std.specs.Prelude.{ℕ, ◌+◌, ◌-◌, ◌*◌, ◌/◌, Bool, true, if◌then◌else◌, ◌&&◌, List, [], ◌∷◌, length, take, drop, is_some, Some, None, Option, ◌==◌, slice_index}
use Rattle.guards.specs.declared.entry.Entry.TheVariants.{Switch, Not, Both, Either}
use Rattle.sheet.specs.declared.call.Change.{Change}
use Rattle.sheet.specs.declared.call.Change.TheVariants.{Enter, Equation, Variable, Place, Assume}

abbrev pub byte : List ℕ → ℕ → ℕ
byte f k = slice_index f k

-- the number in the first two bytes, the higher first
abbrev pub pair : List ℕ → ℕ
pair p = byte p 0 * 256 + byte p 1

-- the header: first record, switches, equations, variables, three zeros
abbrev pub first_of : List ℕ → ℕ
first_of f = pair f

abbrev pub switches_of : List ℕ → ℕ
switches_of f = byte f 2

abbrev pub equations_of : List ℕ → ℕ
equations_of f = byte f 3

abbrev pub variables_of : List ℕ → ℕ
variables_of f = byte f 4

-- how many records follow the header
abbrev pub count_of : List ℕ → ℕ
count_of f = length f / 8 - 1

-- the eight bytes of record n, numbered from 1
abbrev pub part_of : List ℕ → ℕ → List ℕ
part_of f n = take 8 (drop (8 * n) f)

-- the number that record n names as the next
abbrev pub next_of : List ℕ → ℕ → ℕ
next_of f n = pair (part_of f n)

abbrev pub zeros : List ℕ → Bool
zeros [] = true
zeros (x ∷ xs) = x == 0 && zeros xs

-- a call whose other bytes are these: it stands only if they are zero
abbrev pub unused : List ℕ → Change → Option Change
unused xs c = if zeros xs then Some c else None

-- the call that a letter chooses, from the operands a, b, c, d and the byte after them
-- the letters: 83 S, 78 N, 66 B, 69 E, 81 Q, 86 V, 79 O, 65 A
abbrev pub chosen : ℕ → ℕ → ℕ → ℕ → ℕ → ℕ → Option Change
chosen l a b c d e =
    if l == 83 then unused (b ∷ c ∷ d ∷ e ∷ []) (Enter (Switch a)) else
    if l == 78 then unused (b ∷ c ∷ d ∷ e ∷ []) (Enter (Not a)) else
    if l == 66 then unused (c ∷ d ∷ e ∷ []) (Enter (Both a b)) else
    if l == 69 then unused (c ∷ d ∷ e ∷ []) (Enter (Either a b)) else
    if l == 81 then unused (c ∷ d ∷ e ∷ []) (Equation a b) else
    if l == 86 then unused (c ∷ d ∷ e ∷ []) (Variable a b) else
    if l == 79 then unused (e ∷ []) (Place a b c d) else
    if l == 65 then unused (b ∷ c ∷ d ∷ e ∷ []) (Assume a) else None

-- the call of a record: none where the letter is unknown, an unused byte is not zero or there are not eight bytes
abbrev pub call_of : List ℕ → Option Change
call_of p = if length p == 8 then chosen (byte p 2) (byte p 3) (byte p 4) (byte p 5) (byte p 6) (byte p 7) else None

abbrev pub sound : List ℕ → Bool
sound p = is_some (call_of p)
