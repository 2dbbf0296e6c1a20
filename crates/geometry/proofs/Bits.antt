-- The literals of the code, with the bits as a premise, so that `grind` takes them at a goal that has a float's bits.
-- Assumes nothing.
use mathlib.Core.Path.{◌≡◌}
use Prim.Native.Nat.{ℕ}
use lib.Ieee.{inf, binary32, of_bits}
use mathlib.Core.Bool.{false}
use Rattle.geometry.specs.Segment.{nought, one, epsilon}

pub nought_is : (b : ℕ) → b ≡ 0 → of_bits binary32 b ≡ nought
unfolding of_bits
nought_is b e = rw e

pub one_is : (b : ℕ) → b ≡ 0x3f80_0000 → of_bits binary32 b ≡ one
unfolding of_bits
one_is b e = rw e

pub epsilon_is : (b : ℕ) → b ≡ 0x3400_0000 → of_bits binary32 b ≡ epsilon
unfolding of_bits
epsilon_is b e = rw e

pub infinity_is : (b : ℕ) → b ≡ 0x7f80_0000 → of_bits binary32 b ≡ inf false
unfolding of_bits
infinity_is b e = rw e

pub ruleset all = (nought_is, one_is, epsilon_is, infinity_is)
