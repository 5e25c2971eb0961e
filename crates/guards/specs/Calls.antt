-- The calls of a guard book: what each answers, and what the book means after it. Assumes nothing.
use Rattle.std.specs.Prelude.{◌≡◌, ℕ, Bool, if◌then◌else◌, not, ◌&&◌, ◌||◌, length, Ok, Err, Result, nat_lt}
use Rattle.faults.specs.declared.Fault.{Fault}
use Rattle.faults.specs.declared.Fault.TheVariants.{NoSuchSwitch, NoSuchGuard, GuardsFull, NoSuchMode}
use Rattle.faults.specs.Refusals.{Refusal, refusal, told}
use Rattle.guards.specs.declared.entry.Entry.{Entry}
use Rattle.guards.specs.declared.entry.Entry.TheVariants.{Switch, Not, Both, Either}
use Rattle.guards.specs.Meaning.{Meaning, on_in, seen, says, modes, with_guard}

-- what the new guard says in the mode m
abbrev pub entry_says : Meaning → Entry → ℕ → Bool
entry_says b (Switch s) m = on_in s (seen b.holds m)
entry_says b (Not g) m = not (says b g m)
entry_says b (Both g h) m = says b g m && says b h m
entry_says b (Either g h) m = says b g m || says b h m

-- what an entry names stands, where there are k switches and n guards
abbrev pub named : ℕ → ℕ → Entry → Bool
named k n (Switch s) = nat_lt s k
named k n (Not g) = nat_lt g n
named k n (Both g h) = nat_lt g n && nat_lt h n
named k n (Either g h) = nat_lt g n && nat_lt h n

-- the refusal of an entry that names what does not stand
abbrev pub missing : Entry → Fault
missing (Switch s) = NoSuchSwitch
missing (Not g) = NoSuchGuard
missing (Both g h) = NoSuchGuard
missing (Either g h) = NoSuchGuard

-- goes on where a test passes, and declines otherwise
abbrev pub provided : {A : Type 0} → Bool → Fault → Result A Refusal → Result A Refusal
provided test f next = if test then next else Err (refusal f)

-- what an entry answers where there are k switches and n guards: the next number, while fewer than 64 stand
abbrev pub admitted : ℕ → ℕ → Entry → Result ℕ Refusal
admitted k n e = provided (named k n e) (missing e) (provided (nat_lt n 64) GuardsFull (Ok n))

abbrev pub answer : Meaning → Entry → Result ℕ Refusal
answer b e = admitted b.switches (length b.guards) e

-- what stands after a call: the new where it is accepted, the old where it is refused
abbrev pub settle : {A B : Type 0} → Result A Refusal → B → B → B
settle (Ok a) new old = new
settle (Err f) new old = old

-- the book after an entry
abbrev pub after : Meaning → Entry → Meaning
after b e = settle (answer b e) (with_guard b (entry_says b e)) b

-- an entry e into the book b answers r and leaves the book x
pub record Entered (b : Meaning) (e : Entry) (r : Result ℕ Fault) (x : Meaning) : Type 0 where
  pub given : told r ≡ answer b e
  pub left : x ≡ after b e

-- goes on where the guard and the mode of a question stand
abbrev pub questioned : {A : Type 0} → Meaning → ℕ → ℕ → Result A Refusal → Result A Refusal
questioned b g m next = provided (nat_lt g (length b.guards)) NoSuchGuard (provided (nat_lt m (modes b)) NoSuchMode next)

-- what a question answers
abbrev pub asked : Meaning → ℕ → ℕ → Result Bool Refusal
asked b g m = questioned b g m (Ok (says b g m))

-- whether the guard and the mode of a question stand
abbrev pub found : Meaning → ℕ → ℕ → Result (Unit {0}) Refusal
found b g m = questioned b g m (Ok tt)
