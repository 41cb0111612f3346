-- A text has one tree: two derivations of it mean the same. At a place at most one value stands.
use Prim.Native.Nat.{ℕ, zero, suc, ◌+◌}
use mathlib.Core.Path.{◌≡◌, refl, sym, ◌∙◌, ap, ap₂}
use mathlib.Core.List.{List, [], ◌∷◌, ◌++◌, append-nil, map}
use native.Mathlib.Omega.{arith}
use lib.Dec.{eqb}
use lib.ListN.{get_or}
use Rattle.laws.specs.Pick.{pick}
use Rattle.json_tokens.specs.Scan.{blank, past_while}
use Rattle.json_tokens.specs.Number.{number_at}
use Rattle.json_strings.specs.Text.{content_at}
use Rattle.json_values.specs.Members.{members_of, value_place}
use Rattle.report_read.specs.Entry.{elements_of}
use Rattle.json_laws.specs.Rules.{join}
use Rattle.json_laws.specs.Abnf
use Rattle.json_laws.specs.Tree.{Json, Elements, no_more, element, Members, no-others, member, Member, members}
use Rattle.json_laws.specs.Tree.{elements, paired, text_tree}
use Rattle.json_laws.proofs.Rest.{if-is, if-not, rest-as, rest_all, rest-blanks, trim, trim-ws}
use Rattle.json_laws.proofs.Lists.{stops-low, ws-stops}
use Rattle.json_laws.proofs.At.{At, MemberAt, Each, none, one, text_to, Shows, a-false, a-null, a-true, an-object}
use Rattle.json_laws.proofs.At.{an-array, a-number, a-string, at-shows}

-- ---- The tree that the readers see at a place.
abbrev pub scalar : List ℕ → ℕ → Json → Json
scalar s k other =
    pick (eqb (get_or s k 0) 34) (Json.string (paired (content_at s (k + 1)))) (pick (eqb (get_or s k 0) 102) Json.false
    (pick (eqb (get_or s k 0) 110) Json.null (pick (eqb (get_or s k 0) 116) Json.true other)))

abbrev pub named : List ℕ → Json → Member
named n t = record { name = n; value = t }

abbrev pub member_seen : List ℕ → (ℕ → Json) → ℕ → Member
member_seen s f k = named (paired (content_at s (k + 1))) (f (value_place s k))

unfoldable pub seen : List ℕ → ℕ → ℕ → Json
seen s zero k = scalar s k (Json.number (text_to s k (number_at s k)))
seen s (suc d) k =
    scalar s k (pick (eqb (get_or s k 0) 123) (Json.object (members (map (member_seen s (seen s d)) (members_of s d k))))
    (pick (eqb (get_or s k 0) 91) (Json.array (elements (map (seen s d) (elements_of s d k))))
    (Json.number (text_to s k (number_at s k)))))

all_are : {A : Type 0} {P : ℕ → A → Type 0} (f : ℕ → A) {ks : List ℕ} {l : List A} → ((k : ℕ) (a : A) → P k a → a ≡ f k)
    → Each P ks l → l ≡ map f ks
all_are f g none = refl
all_are {A} f g (one {k = k} {a = a} p r) = ap₂ (λ (x : A) (y : List A). x ∷ y) (g k a p) (all_are f g r)

module _ (s : List ℕ) (k : ℕ) (other : Json) where
  false-seen : get_or s k 0 ≡ 102 → Json.false ≡ scalar s k other
  false-seen e =
      if-not (λ t. Json.false ≡ t) _ (λ (f : get_or s k 0 ≡ 34). omega arith)
      (if-is (λ t. Json.false ≡ t) _ e refl)

  null-seen : get_or s k 0 ≡ 110 → Json.null ≡ scalar s k other
  null-seen e =
      if-not (λ t. Json.null ≡ t) _ (λ (f : get_or s k 0 ≡ 34). omega arith)
      (if-not (λ t. Json.null ≡ t) _ (λ (f : get_or s k 0 ≡ 102). omega arith)
      (if-is (λ t. Json.null ≡ t) _ e refl))

  true-seen : get_or s k 0 ≡ 116 → Json.true ≡ scalar s k other
  true-seen e =
      if-not (λ t. Json.true ≡ t) _ (λ (f : get_or s k 0 ≡ 34). omega arith)
      (if-not (λ t. Json.true ≡ t) _ (λ (f : get_or s k 0 ≡ 102). omega arith)
      (if-not (λ t. Json.true ≡ t) _ (λ (f : get_or s k 0 ≡ 110). omega arith)
      (if-is (λ t. Json.true ≡ t) _ e refl)))

  string-seen : {x : List ℕ} → get_or s k 0 ≡ 34 → paired (content_at s (k + 1)) ≡ x → Json.string x ≡ scalar s k other
  string-seen {x} e g = if-is (λ t. Json.string x ≡ t) _ e (ap Json.string (sym g))

  other-seen : {u : Json} → (get_or s k 0 ≡ 34 → ⊥) → (get_or s k 0 ≡ 102 → ⊥) → (get_or s k 0 ≡ 110 → ⊥)
      → (get_or s k 0 ≡ 116 → ⊥) → u ≡ other → u ≡ scalar s k other
  other-seen {u} a b c d e =
      if-not (λ t. u ≡ t) _ a (if-not (λ t. u ≡ t) _ b (if-not (λ t. u ≡ t) _ c (if-not (λ t. u ≡ t) _ d e)))

module _ (s : List ℕ) where
  member_seen_lem : (d : ℕ) → ((k : ℕ) (t : Json) → At s d k t → t ≡ seen s d k) → (k : ℕ) (m : Member) → MemberAt s d k m
      → m ≡ member_seen s (seen s d) k
  member_seen_lem d g k m p = ap₂ named (sym p.name) (g (value_place s k) m.value p.value)

  is_seen : (d k : ℕ) (t : Json) → Shows s k d t → t ≡ seen s d k
  unfolding seen
  is_seen zero k t (a-false e) = false-seen s k _ e
  is_seen zero k t (a-null e) = null-seen s k _ e
  is_seen zero k t (a-true e) = true-seen s k _ e
  is_seen zero k t (a-string e g) = string-seen s k _ e g
  is_seen zero k t (a-number l h g) =
      other-seen s k _ (λ (e : get_or s k 0 ≡ 34). omega arith) (λ (e : get_or s k 0 ≡ 102). omega arith)
      (λ (e : get_or s k 0 ≡ 110). omega arith) (λ (e : get_or s k 0 ≡ 116). omega arith) (ap Json.number (sym g))
  is_seen (suc d) k t (a-false e) = false-seen s k _ e
  is_seen (suc d) k t (a-null e) = null-seen s k _ e
  is_seen (suc d) k t (a-true e) = true-seen s k _ e
  is_seen (suc d) k t (a-string e g) = string-seen s k _ e g
  is_seen (suc d) k t (an-object o p) =
      other-seen s k _ (λ (e : get_or s k 0 ≡ 34). omega arith) (λ (e : get_or s k 0 ≡ 102). omega arith)
      (λ (e : get_or s k 0 ≡ 110). omega arith) (λ (e : get_or s k 0 ≡ 116). omega arith)
      (if-is (λ u. t ≡ u) _ o (ap (λ l. Json.object (members l))
      (all_are (member_seen s (seen s d)) (member_seen_lem d (λ j u a. is_seen d j u (at-shows a))) p)))
  is_seen (suc d) k t (an-array o p) =
      other-seen s k _ (λ (e : get_or s k 0 ≡ 34). omega arith) (λ (e : get_or s k 0 ≡ 102). omega arith)
      (λ (e : get_or s k 0 ≡ 110). omega arith) (λ (e : get_or s k 0 ≡ 116). omega arith)
      (if-not (λ u. t ≡ u) _ (λ (e : get_or s k 0 ≡ 123). omega arith)
      (if-is (λ u. t ≡ u) _ o (ap (λ l. Json.array (elements l))
      (all_are (seen s d) (λ j u a. is_seen d j u (at-shows a)) p))))
  is_seen (suc d) k t (a-number l h g) =
      other-seen s k _ (λ (e : get_or s k 0 ≡ 34). omega arith) (λ (e : get_or s k 0 ≡ 102). omega arith)
      (λ (e : get_or s k 0 ≡ 110). omega arith) (λ (e : get_or s k 0 ≡ 116). omega arith)
      (if-not (λ u. t ≡ u) _ (λ (e : get_or s k 0 ≡ 123). omega arith)
      (if-not (λ u. t ≡ u) _ (λ (e : get_or s k 0 ≡ 91). omega arith) (ap Json.number (sym g))))

-- ---- So there is one.
pub one_at : {s : List ℕ} {d k : ℕ} {t u : Json} → At s d k t → At s d k u → t ≡ u
one_at {s} {d} {k} {t} {u} a b = is_seen s d k t (at-shows a) ∙ sym (is_seen s d k u (at-shows b))

-- the value of a text stands past the blanks
pub text_at : (d : ℕ) (s : List ℕ) (j : Abnf.JSON-text d s) → At s d (past_while blank s 0) (text_tree d s j)
unfolding text_tree Abnf.JSON-text
text_at d s (join {x = a} u (join {x = v} {y = w} p m)) = record {
  text = v;
  behind = w ++ [];
  derived = p;
  means = refl;
  stops = ws-stops w [] m (stops-low [] (omega arith));
  stands =
      rest-as (trim-ws a (v ++ w) u ∙ ap (λ l. trim (v ++ l)) (sym (append-nil w))) (rest-blanks (rest_all s));
}

pub text-seen : (d : ℕ) (s : List ℕ) (j : Abnf.JSON-text d s) → text_tree d s j ≡ seen s d (past_while blank s 0)
text-seen d s j = is_seen s d (past_while blank s 0) (text_tree d s j) (at-shows (text_at d s j))

pub one-tree : (d : ℕ) (s : List ℕ) (i j : Abnf.JSON-text d s) → text_tree d s i ≡ text_tree d s j
one-tree d s i j = one_at (text_at d s i) (text_at d s j)

-- ---- Lists in trees.
abbrev element_list : Elements → List Json
element_list no_more = []
element_list (element t ts) = t ∷ element_list ts

abbrev member_list : Members → List Member
member_list no-others = []
member_list (member n t ms) = named n t ∷ member_list ms

list-elements : (ts : List Json) → element_list (elements ts) ≡ ts
unfolding elements
list-elements [] = refl
list-elements (t ∷ ts) = ap (λ (l : List Json). t ∷ l) (list-elements ts)

list-members : (ms : List Member) → member_list (members ms) ≡ ms
unfolding members
list-members [] = refl
list-members (m ∷ ms) = ap (λ (l : List Member). m ∷ l) (list-members ms)

pub same-elements : (ts us : List Json) → Json.array (elements ts) ≡ Json.array (elements us) → ts ≡ us
same-elements ts us e =
    let f : elements ts ≡ elements us = cc in sym (list-elements ts) ∙ ap element_list f ∙ list-elements us

pub same-members : (ms ns : List Member) → Json.object (members ms) ≡ Json.object (members ns) → ms ≡ ns
same-members ms ns e =
    let f : members ms ≡ members ns = cc in sym (list-members ms) ∙ ap member_list f ∙ list-members ns
