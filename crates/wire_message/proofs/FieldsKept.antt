-- Fields that a message may hold. A test that antt computes decides it of the tags; of the values only the lengths are
-- asked, so that they may be hashes, which are not computed.
use mathlib.Core.Path.{◌≡◌, refl}
use mathlib.Core.Bool.{Bool, false}
use mathlib.Core.List.{List, [], ◌∷◌}
use Prim.Native.Nat.{ℕ, zero, suc, ◌+◌, ◌-◌, ◌%◌, ◌^◌, ◌<◌}
use native.Mathlib.Omega.{arith}
use borrow.Author.Tests.{ltb-false, leb-false}
use lib.Dec.{ltb, leb}
use lib.ListN.{length}
use Rattle.laws.specs.Any.{any}
use Rattle.laws.specs.Least.{somewhere}
use Rattle.laws.proofs.Any.{any-parts}
use Rattle.laws.proofs.Least.{nowhere-at}
use Rattle.wire_message.specs.Encode.{Field, Fields, field, values}
use Rattle.wire_message.proofs.Positions.{length-offsets, offset-of, reach-in}

-- the length of each value is a multiple of 4
abbrev pub Fours : List Field → Type 0
Fours [] = Unit {0}
Fours (f ∷ fs) = (length f.value % 4 ≡ 0) × Fours fs

fours-at : (fs : List Field) → Fours fs → (k : ℕ) → length (field fs k).value % 4 ≡ 0
fours-at [] h k = refl
fours-at (f ∷ fs) h zero = h.0
fours-at (f ∷ fs) h (suc k) = fours-at fs h.1 k

-- they are not 1 to 32, a tag is no u32, or the tags do not rise
unfoldable pub tags_wrong : List Field → Bool
tags_wrong fs =
    any
    (ltb (length fs) 1
    ∷ ltb 32 (length fs)
    ∷ somewhere (λ k. leb (2 ^ 32) (field fs k).tag) (length fs)
    ∷ somewhere (λ k. leb (field fs (k + 1)).tag (field fs k).tag) (length fs - 1)
    ∷ [])

pub fields-kept : (fs : List Field) → tags_wrong fs ≡ false → Fours fs → length (values fs) < 2 ^ 32 → Fields fs
unfolding tags_wrong
fields-kept fs t fours size =
    let a = any-parts _ _ t in
    let b = any-parts _ _ a.1 in
    let c = any-parts _ _ b.1 in
    let d = any-parts _ _ c.1 in
    record {
      one = ltb-false _ _ a.0;
      few = ltb-false _ _ b.0;
      word = λ k h. leb-false (2 ^ 32) _ (nowhere-at _ (length fs) k c.0 h);
      rise = λ k h. leb-false _ _ (nowhere-at _ (length fs - 1) k d.0 (omega arith));
      fours = λ k h. fours-at fs fours k;
      near = λ k h.
          let l : suc k < length fs = omega (arith, length-offsets fs) in
          omega (arith, offset-of fs k l, reach-in fs (suc k) l);
    }
