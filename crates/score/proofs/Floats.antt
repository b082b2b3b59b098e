-- What the standard library's tests of floats say, in the words of the definitions. Assumes nothing.
use Rattle.std.specs.Prelude.{◌≡◌, true, Float}
use Rattle.std.proofs.Common.{refl}
use Rattle.std.specs.Float.{nan, inf, fin, binary32, float_is_finite}
use Rattle.std.specs.Float.Ieee.{is_nan, to_bits}
use Rattle.std.specs.Float.Ieee.Scale.{finite}

pub finite_is : (x : Float) → float_is_finite x ≡ finite x
unfolding float_is_finite
finite_is nan = refl
finite_is (inf s) = refl
finite_is (fin s m e) = refl

pub nan_bits_lem : (x : Float) → is_nan x ≡ true → 0x7fc0_0000 ≡ to_bits binary32 x
unfolding is_nan to_bits
nan_bits_lem nan h = refl
nan_bits_lem (inf s) h = cc
nan_bits_lem (fin s m e) h = cc
