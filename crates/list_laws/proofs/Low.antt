-- Addresses and URLs are ASCII, and what is ASCII is UTF-8.
use Prim.Native.Nat.{ℕ, zero, suc, ◌+◌, ◌-◌, ◌≤◌, ◌<◌}
use mathlib.Core.Path.{◌≡◌, refl, ap}
use mathlib.Core.Bool.{Bool, true, false, not}
use mathlib.Core.List.{List, [], ◌∷◌}
use native.Mathlib.Nat.{zero-add}
use native.Mathlib.Omega.{arith}
use lib.Dec.{eqb, leb, ltb}
use lib.ListN.{length, get_or, take, drop, drop_of_length-le, length-drop}
use lib.Seq.{get_or-take, get_or-drop, drop-drop}
use borrow.Author.Tests.{eqb-true, eqb-false, leb-true, leb-false, ltb-true, ltb-false, lt-ltb, not-true, not-false}
use Rattle.std.specs.Prelude.{None, Option, Some}
use Rattle.laws.specs.Ascii.{ascii}
use Rattle.laws.specs.Least.{least, somewhere}
use Rattle.laws.specs.Pasted.{part}
use Rattle.laws.specs.Pick.{pick, either}
use Rattle.laws.proofs.Least.{least-le, somewhere-at, nowhere-at}
use Rattle.json_tokens.specs.Scan.{digit, run, past_while}
use Rattle.json_tokens.specs.Walk.{onward, walk}
use Rattle.json_tokens.proofs.Picks.{over}
use Rattle.json_tokens.proofs.While.{while-ahead}
use Rattle.json_quote.specs.Utf8.{char_step, reached, is_utf8}
use Rattle.json_laws.proofs.Spans.{both-parts}
use Rattle.list_address.specs.Chars.{between, letter, hex_digit, label_char, one_of, url_char}
use Rattle.list_address.specs.Runs.{every, is_run, last_byte}
use Rattle.list_address.specs.Decimal.{is_decimal, is_octet, is_port}
use Rattle.list_address.specs.Parts.{onto, split, plus, counted, or_else, right, exactly, within}
use Rattle.list_address.specs.Host.{is_ipv4, is_group, pieces, side, double_at, is_shortened, double_in, is_ipv6, is_label}
use Rattle.list_address.specs.Host.{is_last_label, is_name, is_domain, is_bracketed, is_host}
use Rattle.list_address.specs.Address.{is_address}
use Rattle.list_address.specs.Https.{lower, differs_at, has_scheme, is_ended, is_authority, percent_at, clean_at, is_clean}
use Rattle.list_address.specs.Https.{fragment_in, is_rest, authority_end, is_https}
use Rattle.list_address.proofs.Exactly.{address-exactly}
use Rattle.list_laws.proofs.Strings.{never}

-- each octet is below 80; past the end 0 is read
abbrev pub Low : List ℕ → Type 0
Low x = (i : ℕ) → get_or x i 0 < 128

abbrev LowTo : ℕ → List ℕ → Type 0
LowTo k x = (i : ℕ) → i < k → get_or x i 0 < 128

low-empty : Low []
low-empty i = omega arith

low-to : (x : List ℕ) (k : ℕ) → Low (take k x) → LowTo k x
low-to x k a i h = omega (arith, a i, get_or-take k x i 0 h)

low-from : (x : List ℕ) (k : ℕ) → LowTo k x → Low (drop k x) → Low x
low-from x k a b i = by (ltb i k) refl
  where
    by : (t : Bool) → ltb i k ≡ t → get_or x i 0 < 128
    by true e = a i (ltb-true i k e)
    by false e =
        let h = ltb-false i k e in
        let z : k + (i - k) ≡ i = omega arith in
        omega (arith, b (i - k), get_or-drop k x (i - k) 0, ap (λ n. get_or x n 0) z)

low-next : (x : List ℕ) (k : ℕ) → get_or x k 0 < 128 → Low (drop (k + 1) x) → Low (drop k x)
low-next x k a b =
    low-from (drop k x) 1 (λ i h. first i h) (λ i. omega (arith, b i, ap (λ l. get_or l i 0) (drop-drop 1 k x)))
  where
    first : (i : ℕ) → i < 1 → get_or (drop k x) i 0 < 128
    first i h =
        let z : k + i ≡ k = omega arith in omega (arith, a, get_or-drop k x i 0, ap (λ n. get_or x n 0) z)

low-seam : (x : List ℕ) (k : ℕ) → Low (take k x) → get_or x k 0 < 128 → Low (drop (k + 1) x) → Low x
low-seam x k a b c = low-from x k (low-to x k a) (low-next x k b c)

-- nothing stands past the end
low-past : (x : List ℕ) (k : ℕ) → length x ≤ k → Low (drop k x)
low-past x k h = rw (drop_of_length-le x h) low-empty

past-low : (x : List ℕ) (k : ℕ) → length x ≤ k → get_or x k 0 < 128
past-low x k h = by (ltb (get_or x k 0) 128) refl
  where
    by : (t : Bool) → ltb (get_or x k 0) 128 ≡ t → get_or x k 0 < 128
    by true e = ltb-true _ 128 e
    by false e =
        let g = ltb-false (get_or x k 0) 128 e in absurd (omega (arith, over {k = get_or x k 0} {at = k} x refl (omega arith)))

-- ---- Runs.
module _ (p : ℕ → Bool) where
  all-low : ((b : ℕ) → p b ≡ true → b < 128) → (l : List ℕ) → run p l ≡ length l → Low l
  unfolding pick
  all-low g [] e i = omega arith
  all-low g (x ∷ l) e i = by (p x) refl e (all-low g l) i
    where
      by : (t : Bool) → p x ≡ t → pick t (suc (run p l)) 0 ≡ suc (length l) → (run p l ≡ length l → Low l)
          → (i : ℕ) → get_or (x ∷ l) i 0 < 128
      by true f e k zero = g x f
      by true f e k (suc i) = k (omega (arith, e)) i
      by false f e k i = absurd (omega (arith, e))

  every-low : ((b : ℕ) → p b ≡ true → b < 128) → (x : List ℕ) → every p x ≡ true → Low x
  unfolding every past_while
  every-low g x e = all-low g x (omega (arith, eqb-true _ (length x) e))

  run-low : ((b : ℕ) → p b ≡ true → b < 128) → (n : ℕ) (x : List ℕ) → is_run p n x ≡ true → Low x
  unfolding is_run
  run-low g n x e = every-low g x (both-parts _ _ (both-parts _ _ e).1).1

  -- where a run stops
  stop-low : ((b : ℕ) → p b ≡ false → b < 128) → (l : List ℕ) → get_or l (run p l) 0 < 128
  unfolding pick
  stop-low g [] = omega arith
  stop-low g (x ∷ l) = by (p x) refl (stop-low g l)
    where
      by : (t : Bool) → p x ≡ t → get_or l (run p l) 0 < 128 → get_or (x ∷ l) (pick t (suc (run p l)) 0) 0 < 128
      by true f h = h
      by false f h = g x f

-- ---- Octets.
either-of : {A : Type 0} (p q : Bool) → either p q ≡ true → (p ≡ true → A) → (q ≡ true → A) → A
unfolding either
either-of true q h f g = f refl
either-of false q h f g = g h

module _ (b : ℕ) where
  between-low : (l h : ℕ) → h < 128 → between l h b ≡ true → b < 128
  between-low l h g e = omega (arith, leb-true b h (both-parts _ _ e).1)

  digit_low : digit b ≡ true → b < 128
  digit_low e = between-low 48 57 (omega arith) e

  hex-low : hex_digit b ≡ true → b < 128
  unfolding hex_digit
  hex-low e =
      either-of _ _ e digit_low
      (λ f. either-of _ _ f (between-low 97 102 (omega arith)) (between-low 65 70 (omega arith)))

  label-low : label_char b ≡ true → b < 128
  unfolding label_char letter
  label-low e =
      either-of _ _ e digit_low (λ f. either-of _ _ f
      (λ g. either-of _ _ g (between-low 97 122 (omega arith)) (between-low 65 90 (omega arith)))
      (λ g. omega (arith, eqb-true b 45 g)))

  one-low : (w : List ℕ) → Low w → one_of w b ≡ true → b < 128
  unfolding one_of
  one-low w l e =
      let f = somewhere-at (λ k. eqb (get_or w k 0) b) (length w) e in
      omega (arith, eqb-true _ b f.1, l (least (λ k. eqb (get_or w k 0) b) (length w)))

  url-low : url_char b ≡ true → b < 128
  unfolding url_char pick
  url-low e =
      either-of _ _ e label-low
      (one-low (ascii "._~!$&'()*+,;=:@/?")
      (all-low (λ c. ltb c 128) (λ c f. ltb-true c 128 f) (ascii "._~!$&'()*+,;=:@/?") refl))

-- ---- Parts.
data Parts : List (List ℕ) → Type 0 where
  no_part : Parts []
  a-part : {x : List ℕ} {xs : List (List ℕ)} → Low x → Parts xs → Parts (x ∷ xs)

module _ (p q : List ℕ → Bool) (f : (x : List ℕ) → p x ≡ true → Low x) (g : (x : List ℕ) → q x ≡ true → Low x) where
  no-many : {A : Type 0} {n : ℕ} → None ≡ Some n → A
  no-many e = cc

  counted-low : (l : List (List ℕ)) {n : ℕ} → counted p q l ≡ Some n → Parts l
  unfolding counted pick plus
  counted-low [] e = no_part
  counted-low (x ∷ []) {n} e = by (q x) refl e
    where
      by : (t : Bool) → q x ≡ t → pick t (Some 1) None ≡ Some n → Parts (x ∷ [])
      by true h i = a-part (g x h) no_part
      by false h i = no-many i
  counted-low (x ∷ y ∷ xs) {n} e = by (p x) (counted p q (y ∷ xs)) refl refl e (λ m i. counted-low (y ∷ xs) {n = m} i)
    where
      by : (t : Bool) (c : Option ℕ) → p x ≡ t → counted p q (y ∷ xs) ≡ c → pick t (plus 1 c) None ≡ Some n
          → ((m : ℕ) → counted p q (y ∷ xs) ≡ Some m → Parts (y ∷ xs)) → Parts (x ∷ y ∷ xs)
      by true (Some m) h i e k = a-part (f x h) (k m i)
      by true None h i e k = no-many e
      by false c h i e k = no-many e

  split-low : (c : ℕ) → c < 128 → (x : List ℕ) → Parts (split c x) → Low x
  unfolding split onto pick
  split-low c h [] l = low-empty
  split-low c h (b ∷ x) l = by (eqb b c) (split c x) refl refl l (split-low c h x)
    where
      cons-low : (y : List ℕ) → b < 128 → Low y → (i : ℕ) → get_or (b ∷ y) i 0 < 128
      cons-low y k m zero = k
      cons-low y k m (suc i) = m i

      by : (t : Bool) (s : List (List ℕ)) → eqb b c ≡ t → split c x ≡ s
          → Parts (pick t ([] ∷ s) (onto b s)) → (Parts (split c x) → Low x) → Low (b ∷ x)
      by true s e k (a-part m r) go = cons-low x (omega (arith, eqb-true b c e)) (go (rw k r))
      by false [] e k (a-part m r) go = cons-low x (m 0) (go (rw k no_part))
      by false (y ∷ ys) e k (a-part m r) go = cons-low x (m 0) (go (rw k (a-part (λ i. m (suc i)) r)))

  parts_low : (c : ℕ) → c < 128 → (x : List ℕ) {n : ℕ} → counted p q (split c x) ≡ Some n → Low x
  parts_low c h x e = split-low c h x (counted-low (split c x) e)

-- ---- Hosts.
module _ (x : List ℕ) where
  decimal-low : (wide most : ℕ) → is_decimal wide most x ≡ true → Low x
  unfolding is_decimal
  decimal-low wide most e = run-low digit digit_low wide x (both-parts _ _ e).0

  octet-low : is_octet x ≡ true → Low x
  unfolding is_octet
  octet-low e = decimal-low 3 255 e

  port-low : is_port x ≡ true → Low x
  unfolding is_port
  port-low e = decimal-low 5 65535 e

  group-low : is_group x ≡ true → Low x
  unfolding is_group
  group-low e = run-low hex_digit hex-low 4 x e

  name-part-low : is_label x ≡ true → Low x
  unfolding is_label
  name-part-low e = run-low label_char label-low 63 x (both-parts _ _ e).0

  last-part-low : is_last_label x ≡ true → Low x
  unfolding is_last_label
  last-part-low e = name-part-low (both-parts _ _ e).0

exactly-many : {A : Type 0} (n : ℕ) (c : Option ℕ) → exactly n c ≡ true → ((m : ℕ) → c ≡ Some m → A) → A
unfolding exactly
exactly-many n (Some m) e f = f m refl
exactly-many n None e f = never e

right-many : {A : Type 0} (c : Option ℕ) → right c ≡ true → ((m : ℕ) → c ≡ Some m → A) → A
unfolding right
right-many (Some m) e f = f m refl
right-many None e f = never e

within-many : {A : Type 0} (n : ℕ) (c d : Option ℕ) → within n c d ≡ true
    → ((l m : ℕ) → c ≡ Some l → d ≡ Some m → A) → A
unfolding within
within-many n (Some l) (Some m) e f = f l m refl refl
within-many n (Some l) None e f = never e
within-many n None d e f = never e

not-many : {A : Type 0} {n : ℕ} → None ≡ Some n → A
not-many e = cc

ipv4-low : (x : List ℕ) → is_ipv4 x ≡ true → Low x
unfolding is_ipv4
ipv4-low x e =
    exactly-many 4 (counted is_octet is_octet (split 46 x)) e
    (λ m f. parts_low is_octet is_octet octet-low octet-low 46 (omega arith) x f)

pieces-low : (tail : Bool) (x : List ℕ) {n : ℕ} → pieces tail x ≡ Some n → Low x
unfolding pieces or_else pick plus
pieces-low tail x {n} e = by tail (counted is_group is_group (split 58 x)) (counted is_group is_ipv4 (split 58 x)) refl refl e
  where
    by : (t : Bool) (c d : Option ℕ) → counted is_group is_group (split 58 x) ≡ c → counted is_group is_ipv4 (split 58 x) ≡ d
        → or_else c (pick t (plus 1 d) None) ≡ Some n → Low x
    by t (Some m) d f g h = parts_low is_group is_group group-low group-low 58 (omega arith) x f
    by true None (Some m) f g h = parts_low is_group is_ipv4 group-low ipv4-low 58 (omega arith) x g
    by true None None f g h = not-many h
    by false None d f g h = not-many h

side-low : (tail : Bool) (x : List ℕ) {n : ℕ} → side tail x ≡ Some n → Low x
unfolding side pick
side-low tail x {n} e = by (eqb (length x) 0) refl e
  where
    by : (t : Bool) → eqb (length x) 0 ≡ t → pick t (Some 0) (pieces tail x) ≡ Some n → Low x
    by true f g = λ i. past-low x i (omega (arith, eqb-true (length x) 0 f))
    by false f g = pieces-low tail x g

shortened-low : (x : List ℕ) (k : ℕ) → double_at x k ≡ true → is_shortened x k ≡ true → Low x
unfolding is_shortened double_at
shortened-low x k d e =
    let p = both-parts _ _ d in
    within-many 7 (side false (take k x)) (side true (drop (k + 2) x)) e (λ l m f g.
    let z : k + 1 + 1 ≡ k + 2 = omega arith in
    let r : Low (drop (k + 1 + 1) x) = rw z (side-low true (drop (k + 2) x) g) in
    low-seam x k (side-low false (take k x) f) (omega (arith, eqb-true (get_or x k 0) 58 p.0))
    (low-next x (k + 1) (omega (arith, eqb-true (get_or x (k + 1) 0) 58 p.1)) r))

ipv6-low : (x : List ℕ) → is_ipv6 x ≡ true → Low x
unfolding is_ipv6 pick somewhere
ipv6-low x e = by (eqb (double_in x) (length x)) refl e
  where
    double : (double_in x ≡ length x → ⊥) → double_at x (double_in x) ≡ true
    double n =
        (somewhere-at (double_at x) (length x)
        (lt-ltb (double_in x) (length x) (omega (arith, least-le (double_at x) (length x), n)))).1

    by : (t : Bool) → eqb (double_in x) (length x) ≡ t
        → pick t (exactly 8 (pieces true x)) (is_shortened x (double_in x)) ≡ true → Low x
    by true f g = exactly-many 8 (pieces true x) g (λ m h. pieces-low true x h)
    by false f g = shortened-low x (double_in x) (double (eqb-false _ _ f)) g

name-low : (x : List ℕ) → is_name x ≡ true → Low x
unfolding is_name
name-low x e =
    right-many (counted is_label is_last_label (split 46 x)) (both-parts _ _ e).1
    (λ m f. parts_low is_label is_last_label name-part-low last-part-low 46 (omega arith) x f)

-- all but the last octet, and that
ended-low : (x : List ℕ) → Low (take (length x - 1) x) → last_byte x < 128 → Low x
ended-low x a b = low-seam x (length x - 1) a b (low-past x (length x - 1 + 1) (omega arith))

domain-low : (x : List ℕ) → is_domain x ≡ true → Low x
unfolding is_domain pick
domain-low x e = by (eqb (last_byte x) 46) refl e
  where
    by : (t : Bool) → eqb (last_byte x) 46 ≡ t → pick t (is_name (take (length x - 1) x)) (is_name x) ≡ true → Low x
    by true f g = ended-low x (name-low _ g) (omega (arith, eqb-true (last_byte x) 46 f))
    by false f g = name-low x g

bracketed-low : (x : List ℕ) → is_bracketed x ≡ true → Low x
unfolding is_bracketed
bracketed-low x e =
    let p = both-parts _ _ e in
    let q = both-parts _ _ p.1 in
    let inner = ipv6-low (part 1 (length x - 1) x) q.1 in
    low-from x 1 (λ i h. first (eqb-true _ 91 p.0) i h)
    (low-seam (drop 1 x) (length x - 1 - 1) inner (last (leb 2 (length x)) refl (eqb-true _ 93 q.0))
    (low-past (drop 1 x) (length x - 1 - 1 + 1) (omega (arith, length-drop 1 x))))
  where
    first : get_or x 0 0 ≡ 91 → (i : ℕ) → i < 1 → get_or x i 0 < 128
    first a i h = let z : i ≡ 0 = omega arith in omega (arith, a, ap (λ n. get_or x n 0) z)

    last : (t : Bool) → leb 2 (length x) ≡ t → last_byte x ≡ 93 → get_or (drop 1 x) (length x - 1 - 1) 0 < 128
    last true f g =
        let h = leb-true 2 (length x) f in
        let z : 1 + (length x - 1 - 1) ≡ length x - 1 = omega arith in
        omega (arith, get_or-drop 1 x (length x - 1 - 1) 0, ap (λ n. get_or x n 0) z)
    last false f g = past-low (drop 1 x) (length x - 1 - 1) (omega (arith, leb-false 2 (length x) f, length-drop 1 x))

host-low : (x : List ℕ) → is_host x ≡ true → Low x
unfolding is_host
host-low x e = either-of _ _ e (ipv4-low x) (λ f. either-of _ _ f (domain-low x) (bracketed-low x))

pub address-low : (x : List ℕ) → is_address x ≡ true → Low x
address-low x e =
    let d = (address-exactly x).0 e in
    low-seam x d.0 (host-low _ d.1.host) (omega (arith, d.1.colon)) (port-low _ d.1.port)

-- ---- URLs.
scheme-at : (x : List ℕ) (i : ℕ) → differs_at x i ≡ false → lower (get_or x i 0) ≡ get_or (ascii "https://") i 0
unfolding differs_at
scheme-at x i e = eqb-true (lower (get_or x i 0)) (get_or (ascii "https://") i 0) (not-false _ e)

lower-low : (b c : ℕ) → c < 128 → lower b ≡ c → b < 128
unfolding lower pick
lower-low b c h e = by (between 65 90 b) e
  where
    by : (t : Bool) → pick t (b + 32) b ≡ c → b < 128
    by true f = omega (arith, f)
    by false f = omega (arith, f)

https-short : Low (ascii "https://")
unfolding pick
https-short = all-low (λ c. ltb c 128) (λ c f. ltb-true c 128 f) (ascii "https://") refl

scheme-low : (x : List ℕ) → has_scheme x ≡ true → LowTo 8 x
unfolding has_scheme
scheme-low x e i h =
    lower-low (get_or x i 0) (get_or (ascii "https://") i 0) (https-short i)
    (scheme-at x i (nowhere-at (differs_at x) 8 i (not-true (somewhere (differs_at x) 8) e) h))

authority-low : (x : List ℕ) → is_authority x ≡ true → Low x
unfolding is_authority is_ended
authority-low x e =
    either-of _ _ e (host-low x) (λ f. either-of _ _ f (address-low x) (λ g.
    let p = both-parts _ _ g in ended-low x (host-low _ p.1) (omega (arith, eqb-true (last_byte x) 58 p.0))))

clean-low : (x : List ℕ) → is_clean x ≡ true → Low x
unfolding is_clean clean_at percent_at
clean-low x e i = by (leb (length x) i) refl
  where
    by : (t : Bool) → leb (length x) i ≡ t → get_or x i 0 < 128
    by true f = past-low x i (leb-true _ _ f)
    by false f =
        either-of _ _ (not-false _ (nowhere-at (λ k. not (clean_at x k)) (length x) i (not-true _ e) (leb-false _ _ f)))
        (url-low (get_or x i 0)) (λ g. omega (arith, eqb-true (get_or x i 0) 37 (both-parts _ _ g).0))

-- the first sharp, or the end
fragment-low : (x : List ℕ) → get_or x (fragment_in x) 0 < 128
unfolding past_while
fragment-low x = rw (zero-add (run _ x)) (stop-low _ (λ b f. omega (arith, eqb-true b 35 (not-false _ f))) x)

rest-low : (x : List ℕ) → is_rest x ≡ true → Low x
unfolding is_rest
rest-low x e =
    let p = both-parts _ _ e in
    low-seam x (fragment_in x) (clean-low _ p.0) (fragment-low x) (clean-low _ p.1)

pub https-low : (x : List ℕ) → is_https x ≡ true → Low x
unfolding is_https
https-low x e =
    let p = both-parts _ _ e in
    let q = both-parts _ _ p.1 in
    let a : 8 ≤ authority_end x = while-ahead _ x 8 in
    let z : 8 + (authority_end x - 8) ≡ authority_end x = omega arith in
    let r : Low (drop (authority_end x - 8) (drop 8 x)) =
    rw (drop-drop (authority_end x - 8) 8 x, z) (rest-low _ q.1) in
    low-from x 8 (scheme-low x p.0)
    (low-from (drop 8 x) (authority_end x - 8) (low-to _ _ (authority-low _ q.0)) r)

-- ---- UTF-8.
low-walk : (x : List ℕ) → Low x → (n k : ℕ) → length x - k < n → reached (walk n (char_step x) k) ≡ true
unfolding walk onward char_step pick
low-walk x l zero k h = absurd (omega arith)
low-walk x l (suc n) k h = by (leb (length x) k) refl (λ g. low-walk x l n (k + 1) (omega arith))
  where
    by : (t : Bool) → leb (length x) k ≡ t → (k < length x → reached (walk n (char_step x) (k + 1)) ≡ true)
        → reached (onward (char_step x k) (walk n (char_step x))) ≡ true
    by true e go = rw e refl
    by false e go = rw (e, lt-ltb _ 128 (l k)) (go (leb-false _ _ e))

pub low-utf8 : (x : List ℕ) → Low x → is_utf8 x ≡ true
unfolding is_utf8
low-utf8 x l = low-walk x l (suc (length x)) 0 (omega arith)
