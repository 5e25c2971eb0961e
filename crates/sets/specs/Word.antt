-- A word as a set of numbers. Assumes nothing.
use Rattle.std.specs.Prelude.{ℕ, ◌/◌, ◌%◌, ◌^◌, Bool, ◌&&◌, ◌==◌, nat_lt}

-- bit i of w, counted from the lowest, is 1
abbrev pub bit : ℕ → ℕ → Bool
bit i w = w / 2 ^ i % 2 == 1

-- i is a member of w
unfoldable pub member : ℕ → ℕ → Bool
member w i = bit i w

-- k is what joins a set when i is put in: i, if it is below 64
abbrev pub joins : ℕ → ℕ → Bool
joins i k = nat_lt i 64 && i == k
