-- Laws about groups of characters, for the writer of what they stand for.
use Rattle.std.specs.Prelude.{None, Option, Some}
use Prim.Native.Nat.{ℕ, ◌+◌, ◌≤◌}
use mathlib.Core.Path.{◌≡◌, refl}
use mathlib.Core.Bool.{true}
use mathlib.Core.List.{List, [], ◌∷◌, ◌++◌}
use native.Mathlib.Omega.{arith}
use lib.ListN.{length}
use Rattle.laws.specs.Pasted.{pasted, fronted}
use Rattle.laws.proofs.Filled.{Filled, filled-first, filled_next, filled-fit, filled-last}
use Rattle.json_strings.specs.Text.{content_at}
use Rattle.base64_strict.specs.declared.Group.{Group}
use Rattle.base64_strict.specs.declared.Group.TheVariants.{Three, Two, One}
use Rattle.base64_strict.specs.Decode.{Decoded, bytes, none, onto, with_group, decode64}
use Rattle.json_base64.specs.Sized.{size_of, good, plain, Grouped, Begun}
use Rattle.json_base64.proofs.Quads.{decode-at}

-- The state of the writer at the character k.
pub record Filling (E : List ℕ) (s : List ℕ) (k : ℕ) (was : List ℕ) (n : ℕ) (out : List ℕ) : Type 0 where
  pub rest : List ℕ
  pub reads : decode64 (content_at s k) ≡ bytes rest
  pub filled : Filled E rest was n out

-- the same with no word of the room
module _ {E s was out : List ℕ} {k n : ℕ} where
  pub filling-begun : Filling E s k was n out → Begun E s k was n out
  filling-begun f = record {
    done = f.filled.done;
    rest = f.rest;
    reads = f.reads;
    whole = f.filled.whole;
    count = f.filled.count;
    over = f.filled.over;
  }

  pub begun-filling : length E ≤ length was → Begun E s k was n out → Filling E s k was n out
  begun-filling h b = record {
    rest = b.rest;
    reads = b.reads;
    filled = record { done = b.done; whole = b.whole; count = b.count; room = h; over = b.over };
  }

is-bytes : (d : Decoded) → good d ≡ true → d ≡ bytes (plain d)
is-bytes (bytes x) e = refl
is-bytes none e = cc

pub filling-first : (s : List ℕ) (k : ℕ) (was : List ℕ) → good (decode64 (content_at s k)) ≡ true
    → length (plain (decode64 (content_at s k))) ≤ length was
    → Filling (plain (decode64 (content_at s k))) s k was 0 was
filling-first s k was g h =
    record { rest = plain (decode64 (content_at s k)); reads = is-bytes _ g; filled = filled-first _ _ h }

three-rest : {x y z : ℕ} (d : Decoded) {l : List ℕ} → onto (x ∷ y ∷ z ∷ []) d ≡ bytes l
    → (d ≡ bytes (plain d)) × (l ≡ (x ∷ y ∷ z ∷ []) ++ plain d)
three-rest (bytes m) e = (refl, cc)
three-rest none e = let q : ◌≡◌ {A = ℕ} 0 1 = cc in absurd (omega arith)

two-rest : {x y : ℕ} (m : List ℕ) (d : Decoded) {l : List ℕ} → with_group (Some (Two x y)) m d ≡ bytes l → l ≡ (x ∷ y ∷ []) ++ []
two-rest [] d e = cc
two-rest (a ∷ m) d e = let q : ◌≡◌ {A = ℕ} 0 1 = cc in absurd (omega arith)

one-rest : {x : ℕ} (m : List ℕ) (d : Decoded) {l : List ℕ} → with_group (Some (One x)) m d ≡ bytes l → l ≡ (x ∷ []) ++ []
one-rest [] d e = cc
one-rest (a ∷ m) d e = let q : ◌≡◌ {A = ℕ} 0 1 = cc in absurd (omega arith)

module _ {E s was out : List ℕ} {k n j : ℕ} {g : Option Group} (f : Filling E s k was n out) (q : Grouped s k g j) where
  module _ {x y z : ℕ} (e : g ≡ Some (Three x y z)) where
    three : (decode64 (content_at s j) ≡ bytes (plain (decode64 (content_at s j)))) × (f.rest ≡ (x ∷ y ∷ z ∷ [])
        ++ plain (decode64 (content_at s j)))
    three = three-rest (decode64 (content_at s j)) (rw (decode-at q, e) at f.reads)

    pub filling-three-fits : n + 3 ≤ length out
    filling-three-fits = filled-fit (x ∷ y ∷ z ∷ []) _ f.filled three.1

    pub filling-three : {to : List ℕ} → to ≡ pasted out n (x ∷ y ∷ z ∷ []) → Filling E s j was (n + 3) to
    filling-three h =
        record {
          rest = plain (decode64 (content_at s j));
          reads = three.0;
          filled = filled_next (x ∷ y ∷ z ∷ []) _
              f.filled three.1 h;
        }

  module _ {x y : ℕ} (e : g ≡ Some (Two x y)) where
    two : f.rest ≡ (x ∷ y ∷ []) ++ []
    two = two-rest (content_at s j) (decode64 (content_at s j)) (rw (decode-at q, e) at f.reads)

    pub filling-two-fits : n + 2 ≤ length out
    filling-two-fits = filled-fit (x ∷ y ∷ []) [] f.filled two

    pub filling-two : {to : List ℕ} → to ≡ pasted out n (x ∷ y ∷ []) → to ≡ fronted E was
    filling-two h = filled-last (filled_next (x ∷ y ∷ []) [] f.filled two h)

  module _ {x : ℕ} (e : g ≡ Some (One x)) where
    one : f.rest ≡ (x ∷ []) ++ []
    one = one-rest (content_at s j) (decode64 (content_at s j)) (rw (decode-at q, e) at f.reads)

    pub filling-one-fits : n + 1 ≤ length out
    filling-one-fits = filled-fit (x ∷ []) [] f.filled one

    pub filling-one : {to : List ℕ} → to ≡ pasted out n (x ∷ []) → to ≡ fronted E was
    filling-one h = filled-last (filled_next (x ∷ []) [] f.filled one h)

module _ {E s was out : List ℕ} {k n : ℕ} (f : Filling E s k was n out) where
  pub filling-end : content_at s k ≡ [] → out ≡ fronted E was
  unfolding decode64
  filling-end e = let h : bytes [] ≡ bytes f.rest = rw e at f.reads in let z : f.rest ≡ [] = cc in
      filled-last (rw z at f.filled)

  pub filling-fewer : decode64 (content_at s k) ≡ none → ⊥
  filling-fewer e = let z : ◌≡◌ {A = ℕ} 0 1 = cc f.reads in omega arith

-- ---- The ways out of `decode`.
pub decode-none : (d : Decoded) (out : List ℕ) → None ≡ size_of 0 d → out ≡ fronted (plain d) out
decode-none (bytes x) out e = let z : ◌≡◌ {A = ℕ} 0 1 = cc in absurd (omega arith)
decode-none none out e = refl

pub decode-good : (d : Decoded) {n : ℕ} → Some n ≡ size_of 0 d → good d ≡ true
decode-good (bytes x) e = refl
decode-good none e = let z : ◌≡◌ {A = ℕ} 0 1 = cc in absurd (omega arith)
