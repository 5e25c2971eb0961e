-- What opening a file answers. Assumes nothing.
use Rattle.std.specs.Prelude.{◌≡◌, ℕ, ◌%◌, ◌<◌, ◌≤◌, true, false, List, [], ◌∷◌, length, Ok, Err, Result}
use Rattle.faults.specs.declared.Fault.{Fault}
use Rattle.faults.specs.declared.Fault.TheVariants.{BadLength, BadHeader, BadLink, BadRecord, EndlessChain}
use Rattle.sheetfile.specs.Format.{byte, first_of, switches_of, equations_of, variables_of, count_of, part_of, next_of, sound}

pub record Whole (f : List ℕ) : Type 0 where
  pub least : 8 ≤ length f
  pub most : length f ≤ 8192
  pub eights : length f % 8 ≡ 0

pub record Headed (f : List ℕ) : Type 0 where
  pub switches : switches_of f ≤ 16
  pub equations : equations_of f ≤ 64
  pub variables : variables_of f ≤ 64
  pub zero5 : byte f 5 ≡ 0
  pub zero6 : byte f 6 ≡ 0
  pub zero7 : byte f 7 ≡ 0

-- n is the number of a record, and the record asks for a call
pub record Links (f : List ℕ) (n : ℕ) : Type 0 where
  pub some : 1 ≤ n
  pub within : n ≤ count_of f
  pub asks : sound (part_of f n) ≡ true

-- from number n the records chain to zero, and these are their numbers
pub data Chain (f : List ℕ) : ℕ → List ℕ → Type 0 where
  done : Chain f 0 []
  link : (n : ℕ) (ns : List ℕ) → Links f n → Chain f (next_of f n) ns → Chain f n (n ∷ ns)

-- number n is named along the chain: by the header, or by a record that links
pub data Named (f : List ℕ) : ℕ → Type 0 where
  first : Named f (first_of f)
  next : (n : ℕ) → Named f n → Links f n → Named f (next_of f n)

-- a number above the record count is named by the header as 0, or by the record that is met
pub data Beyond (f : List ℕ) : ℕ → Type 0 where
  by_header : count_of f < first_of f → Beyond f 0
  by_record : (n : ℕ) → Named f n → 1 ≤ n → n ≤ count_of f → count_of f < next_of f n → Beyond f n

-- record n is met, names no such number, and asks for no call
pub record Faulty (f : List ℕ) (n : ℕ) : Type 0 where
  pub met : Named f n
  pub some : 1 ≤ n
  pub within : n ≤ count_of f
  pub onward : next_of f n ≤ count_of f
  pub silent : sound (part_of f n) ≡ false

-- every number that is named along the chain is that of a record that links: none is zero
abbrev pub Never : List ℕ → Type 0
Never f = (n : ℕ) → Named f n → Links f n

-- what opening the file f answers: the numbers along the chain, or why the file is refused
pub data Judged (f : List ℕ) : Result (List ℕ) Fault → Type 0 where
  chained : (ns : List ℕ) → Whole f → Headed f → Chain f (first_of f) ns → Judged f (Ok ns)
  odd_length : (Whole f → ⊥) → Judged f (Err BadLength)
  bad_header : Whole f → (Headed f → ⊥) → Judged f (Err BadHeader)
  beyond : (m : ℕ) → Whole f → Headed f → Beyond f m → Judged f (Err (BadLink m))
  faulty : (n : ℕ) → Whole f → Headed f → Faulty f n → Judged f (Err (BadRecord n))
  never : Whole f → Headed f → Never f → Judged f (Err EndlessChain)
