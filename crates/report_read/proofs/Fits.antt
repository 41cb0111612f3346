-- Laws for the reader of an entry.
use Rattle.std.specs.Prelude.{None, Option, Some}
use Prim.Native.Nat.{ℕ}
use mathlib.Core.Path.{◌≡◌, refl, sym, ◌∙◌}
use mathlib.Core.Bool.{Bool, true, false, true≢false}
use mathlib.Core.List.{List}
use native.Mathlib.Omega.{arith}
use lib.ListN.{get_or}
use borrow.Author.Tests.{eqb-true, eq-eqb}
use Rattle.laws.specs.Pick.{pick, both}
use Rattle.json_values.specs.declared.Found.{Found}
use Rattle.json_values.specs.Value.{value_at, object_of}
use Rattle.json_values.specs.Members.{found_of}
use Rattle.json_values.proofs.Ahead.{value-is, object-is}
use Rattle.report_read.specs.declared.Spot.{Spot}
use Rattle.report_read.specs.Entry.{rand_name, key_name, request_name, response_name, in_list, in_entry, string_of, text_place}
use Rattle.report_read.specs.Entry.{decoded_at, member_of, is64, rand_good, has_all}
use Rattle.report_read.specs.Ready.{Measured, Exact, Randed, Fine}
use Rattle.report_read.proofs.Elements.{both_left, both_right}
use Rattle.report_read.proofs.Small.{measured-64, measured-length}

module _ (s : List ℕ) (first : Bool) (k : ℕ) where
  -- what has a part that fails is no response object
  unfit : {b : Bool} → b ≡ false → (has_all s first k ≡ true → b ≡ true) → has_all s first k ≡ true
      → value_at s in_list k ≡ None
  unfit e f h = absurd (true≢false (sym (f h) ∙ e))

  member_is : (w : List ℕ) {f : Found} → f ≡ found_of s w in_entry k → decoded_at s (string_of s f) ≡ member_of s k w
  unfolding member_of text_place
  member_is w e = rw e refl

  pub entry_other : {b : ℕ} → b ≡ get_or s k 0 → (b ≡ 123 → ⊥) → has_all s first k ≡ true → value_at s in_list k ≡ None
  unfolding has_all
  entry_other e h a = absurd (h (e ∙ eqb-true _ _ (both_left _ _ a)))

  module _ (o : get_or s k 0 ≡ 123) where
    pub entry-end : value_at s in_list k ≡ object_of s (value_at s in_entry) k
    unfolding pick
    entry-end = value-is s in_list k ∙ rw (eq-eqb (get_or s k 0) 123 o) (object-is s in_list k (λ q. omega arith))

    pub entry-open : {x : Option ℕ} → x ≡ object_of s (value_at s in_entry) k → x ≡ None → has_all s first k ≡ true
        → value_at s in_list k ≡ None
    entry-open e h a = entry-end ∙ sym e ∙ h

  module _ {f : Found} where
    pub entry-rand : f ≡ found_of s rand_name in_entry k → Randed s f first None → has_all s first k ≡ true
        → value_at s in_list k ≡ None
    unfolding has_all rand_good
    entry-rand e r = unfit (rw (member_is rand_name e) at r) (λ a. both_left _ _ (both_right _ _ a))

    pub entry_key : f ≡ found_of s key_name in_entry k → Exact s f None → has_all s first k ≡ true → value_at s in_list k ≡ None
    unfolding has_all
    entry_key e r =
        unfit (rw (member_is key_name e) at r) (λ a. both_left _ _ (both_right _ _ (both_right _ _ a)))

    pub entry-request : f ≡ found_of s request_name in_entry k → is64 (decoded_at s (string_of s f)) ≡ false
        → has_all s first k ≡ true → value_at s in_list k ≡ None
    unfolding has_all
    entry-request e r =
        unfit (rw (member_is request_name e) at r)
        (λ a. both_left _ _ (both_right _ _ (both_right _ _ (both_right _ _ a))))

    pub entry-response : f ≡ found_of s response_name in_entry k → is64 (decoded_at s (string_of s f)) ≡ false
        → has_all s first k ≡ true → value_at s in_list k ≡ None
    unfolding has_all
    entry-response e r =
        unfit (rw (member_is response_name e) at r)
        (λ a. both_right _ _ (both_right _ _ (both_right _ _ (both_right _ _ a))))

  module _ {fa fb fc fd : Found} (e : Spot) (h : e.at ≡ k) (o : get_or s k 0 ≡ 123)
      (ea : fa ≡ found_of s rand_name in_entry k) (eb : fb ≡ found_of s key_name in_entry k)
      (ec : fc ≡ found_of s request_name in_entry k) (ed : fd ≡ found_of s response_name in_entry k)
      (a : Randed s fa first (Some e.rand)) (b : Exact s fb (Some e.key))
      (c : Measured s fc e.request e.asked) (d : Measured s fd e.response e.said) where
    all-good : has_all s first k ≡ true
    unfolding has_all rand_good both
    all-good =
        rw (
          eq-eqb (get_or s k 0) 123 o,
          rw (member_is rand_name ea) at a.1,
          rw (member_is key_name eb) at b.1,
          rw (member_is request_name ec) at (measured-64 c),
        ) (rw (member_is response_name ed) at (measured-64 d))

    pub entry-fine : {x : Option ℕ} {j : ℕ} → x ≡ object_of s (value_at s in_entry) k → x ≡ Some j → Fine s first k e j
    entry-fine g q = record {
      here = h;
      all = all-good;
      end = entry-end o ∙ sym g ∙ q;
      spot = rw h (record {
        key = b.0 ∙ member_is key_name eb;
        rand = λ z. a.0 z ∙ member_is rand_name ea;
        request = c.is ∙ member_is request_name ec;
        response = d.is ∙ member_is response_name ed;
        asked = rw (member_is request_name ec) at (measured-length c);
        said = rw (member_is response_name ed) at (measured-length d);
      });
    }
