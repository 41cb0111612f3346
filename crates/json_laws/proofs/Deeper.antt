-- What derives with some depth derives with every greater one: the depth only bounds, as "at most" says.
use Prim.Native.Nat.{ℕ, zero, suc, ◌≤◌, ◌<◌}
use mathlib.Core.Path.{◌≡◌, subst}
use mathlib.Core.List.{List}
use native.Mathlib.Omega.{arith}
use native.Mathlib.Decide.{dec_le}
use native.Mathlib.Nat.{lt_of_not-le}
use Rattle.json_laws.specs.Rules.{Rule, ◌·◌, join, left, right, *◌, none, more, optional, absent, present}
use Rattle.json_laws.specs.Abnf

module _ {P Q : Rule} (c : (x : List ℕ) → P x → Q x) where
  further : {x : List ℕ} → (* (Abnf.value-separator · P)) x → (* (Abnf.value-separator · Q)) x
  further none = none
  further (more (join {y = y} s p) m) = more (join s (c y p)) (further m)

  list : {x : List ℕ} → optional (P · * (Abnf.value-separator · P)) x → optional (Q · * (Abnf.value-separator · Q)) x
  list absent = absent
  list (present (join {x = x} p m)) = present (join (c x p) (further m))

  member-deeper : (x : List ℕ) → Abnf.member P x → Abnf.member Q x
  unfolding Abnf.member
  member-deeper x (join s (join {y = y} n v)) = join s (join n (c y v))

  array-deeper : (x : List ℕ) → Abnf.array P x → Abnf.array Q x
  unfolding Abnf.array
  array-deeper x (join b (join l e)) = join b (join (list l) e)

object-deeper : {P Q : Rule} → ((x : List ℕ) → P x → Q x) → (x : List ℕ) → Abnf.object P x → Abnf.object Q x
unfolding Abnf.object
object-deeper c x (join b (join l e)) = join b (join (list (member-deeper c) l) e)

value-deeper : (d : ℕ) (x : List ℕ) → Abnf.value d x → Abnf.value (suc d) x
unfolding Abnf.value
value-deeper zero x (left p) = left p
value-deeper zero x (right (left p)) = right (left p)
value-deeper zero x (right (right (left p))) = right (right (left p))
value-deeper zero x (right (right (right (left p)))) = right (right (right (right (right (left p)))))
value-deeper zero x (right (right (right (right p)))) = right (right (right (right (right (right p)))))
value-deeper (suc d) x (left p) = left p
value-deeper (suc d) x (right (left p)) = right (left p)
value-deeper (suc d) x (right (right (left p))) = right (right (left p))
value-deeper (suc d) x (right (right (right (left p)))) =
    right (right (right (left (object-deeper (λ y. value-deeper d y) x p))))
value-deeper (suc d) x (right (right (right (right (left p))))) =
    right (right (right (right (left (array-deeper (λ y. value-deeper d y) x p)))))
value-deeper (suc d) x (right (right (right (right (right (left p)))))) = right (right (right (right (right (left p)))))
value-deeper (suc d) x (right (right (right (right (right (right p)))))) =
    right (right (right (right (right (right p)))))

one_deeper : (d : ℕ) (x : List ℕ) → Abnf.JSON-text d x → Abnf.JSON-text (suc d) x
unfolding Abnf.JSON-text
one_deeper d x (join a (join {x = v} p b)) = join a (join (value-deeper d v p) b)

pub text-deeper : (d e : ℕ) (x : List ℕ) → d ≤ e → Abnf.JSON-text d x → Abnf.JSON-text e x
text-deeper d zero x h t = let z : d ≡ 0 = omega arith in subst (λ n. Abnf.JSON-text n x) z t
text-deeper d (suc e) x h t =
    elim (dec_le d e) [
      | yes g ↦ one_deeper e x (text-deeper d e x g t)
      | no g ↦ subst (λ n. Abnf.JSON-text n x) (whole (lt_of_not-le g)) t
    ]
  where
    whole : e < d → d ≡ suc e
    whole g = omega arith
