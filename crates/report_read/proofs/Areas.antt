-- Laws for the writers of a record: areas filled with bytes and zeros, one after the other.
use Prim.Native.Nat.{ℕ, ◌+◌, ◌-◌, ◌≤◌}
use mathlib.Core.Path.{◌≡◌, refl, sym, ◌∙◌, ap}
use mathlib.Core.Bool.{Bool, true, false}
use mathlib.Core.List.{List, ◌++◌, append_assoc}
use native.Mathlib.Omega.{arith}
use lib.ListN.{length, take, drop, replicate, length-append, length-replicate, length-take, length-drop}
use Rattle.laws.specs.Pick.{pick, either, both}
use Rattle.laws.specs.Numbers.{le_bytes}
use Rattle.laws.specs.Pasted.{pasted, fronted}
use Rattle.laws.proofs.Pasted.{pasted-two, drop-replicate}
use Rattle.laws.proofs.Numbers.{length-le_bytes}
use Rattle.json_strings.specs.Text.{content_at}
use Rattle.base64_strict.specs.Decode.{Decoded, bytes, none, decode64}
use Rattle.json_base64.specs.Sized.{good, plain}
use Rattle.report_read.specs.declared.Spot.{Spot}
use Rattle.report_read.specs.Entry.{Entry, member_of, held, is64, is32, rand_good, has_all, entry_at, rand_name, key_name}
use Rattle.report_read.specs.Entry.{request_name, response_name}
use Rattle.report_read.proofs.Elements.{both_left, both_right}
use Rattle.pile.specs.Recording.{padded, head_bytes, record_bytes}
use Rattle.pile.proofs.Recorded.{length-padded, length-record}
use Rattle.report_read.specs.Record.{record_of}
use Rattle.report_read.specs.Ready.{Ready, Writable}

pub part_length : (d : List ℕ) (at n : ℕ) → at + n ≤ length d → length (take (at + n - at) (drop at d)) ≡ n
part_length d at n h = simp (length-take, length-drop) (omega arith)

-- ---- Bytes in an area that was cleared.
pub fill_done : {o to : List ℕ} (n : ℕ) (x : List ℕ) → o ≡ replicate n 0 → length x ≤ n → to ≡ fronted x o → to ≡ padded n x
unfolding padded
fill_done n x z l g = g ∙ rw z (ap (λ (q : List ℕ). x ++ q) (drop-replicate n (length x) 0 l))

-- ---- Two areas, one after the other.
pub two-padded : {m e : List ℕ} (d : List ℕ) (at n u : ℕ) (x y : List ℕ) → m ≡ pasted d at (padded n x)
    → e ≡ pasted m (at + n) (padded u y) → length x ≤ n → length y ≤ u → at + (n + u) ≤ length d
    → e ≡ pasted d at (padded n x ++ padded u y)
two-padded d at n u x y f g h i r =
    pasted-two d (padded n x) (padded u y) at (at + n) f g (omega (arith, length-padded n x h)) (omega (
      arith,
      length-padded u y i,
    ))

pub two-lengths : {x y m e : List ℕ} (d : List ℕ) (at q a : ℕ) → x ≡ le_bytes 4 q → y ≡ le_bytes 4 a → m ≡ pasted d at x
    → e ≡ pasted m (at + 4) y → at + 8 ≤ length d → e ≡ pasted d at (le_bytes 4 q ++ le_bytes 4 a)
two-lengths d at q a h i f g r =
    pasted-two d (le_bytes 4 q) (le_bytes 4 a) at (at + 4) (rw h at f) (rw i at g) (omega (arith, length-le_bytes 4 q))
    (omega arith)

lengths-length : (q a : ℕ) → length (le_bytes 4 q ++ le_bytes 4 a) ≡ 8
lengths-length q a =
    length-append (le_bytes 4 q) (le_bytes 4 a) ∙ omega (arith, length-le_bytes 4 q, length-le_bytes 4 a)

pub four-pasted : {o₁ o₂ o₃ o₄ : List ℕ} (d K N Z P : List ℕ) (at : ℕ) → length K ≡ 64 → length N ≡ 8 → length Z ≡ 24
    → length P ≡ 4000
    → o₁ ≡ pasted d at K → o₂ ≡ pasted o₁ (at + 64) N → o₃ ≡ pasted o₂ (at + 72) Z → o₄ ≡ pasted o₃ (at + 96) P
    → at + 4096 ≤ length d → o₄ ≡ pasted d at (K ++ N ++ Z ++ P)
four-pasted {o₁} {o₂} {o₃} {o₄} d K N Z P at hk hn hz hp e₁ e₂ e₃ e₄ h =
    pasted-two d (K ++ N ++ Z) P at (at + 96) three e₄ (omega (arith, long)) (omega arith)
  where
    two : o₂ ≡ pasted d at (K ++ N)
    two = pasted-two d K N at (at + 64) e₁ e₂ (omega arith) (omega arith)

    mid : length (K ++ N) ≡ 72
    mid = length-append K N ∙ omega arith

    long : length (K ++ N ++ Z) ≡ 96
    long = length-append (K ++ N) Z ∙ omega (arith, mid)

    three : o₃ ≡ pasted d at (K ++ N ++ Z)
    three = pasted-two d (K ++ N) Z at (at + 72) two e₃ (omega (arith, mid)) (omega arith)

-- the record of an entry, by the parts that are written one after the other
pub record-parts : (e : Entry) → record_of e
    ≡ (padded 32 e.key ++ padded 32 e.rand)
    ++ (le_bytes 4 (length e.request) ++ le_bytes 4 (length e.response))
    ++ replicate 24 0
    ++ (padded 2000 e.request ++ padded 2000 e.response)
unfolding record_of record_bytes head_bytes
record-parts e = simp append_assoc

-- ---- The first entry's rand.
module _ {o : List ℕ} (d : List ℕ) (at : ℕ) (s : List ℕ) (first : Bool) (k : ℕ) where
  pub rand-first : first ≡ true → o ≡ pasted d at (replicate 32 0)
      → o ≡ pasted d at (padded 32 (entry_at s first k).rand)
  unfolding padded entry_at pick
  rand-first h g = rw h g

  pub rand-later : first ≡ false → o ≡ pasted d at (padded 32 (held (member_of s k rand_name)))
      → o ≡ pasted d at (padded 32 (entry_at s first k).rand)
  unfolding entry_at pick
  rand-later h g = rw h g

module _ {s : List ℕ} {first : Bool} {k : ℕ} (r : Ready s first k) where
  pub ready-rand : first ≡ false → length (held (member_of s k rand_name)) ≤ 32
  unfolding entry_at pick
  ready-rand h = rw h at r.rand

  pub ready-key : length (held (member_of s k key_name)) ≤ 32
  unfolding entry_at
  ready-key = r.key

  pub ready-request : length (held (member_of s k request_name)) ≤ 2000
  unfolding entry_at
  ready-request = r.request

  pub ready-response : length (held (member_of s k response_name)) ≤ 2000
  unfolding entry_at
  ready-response = r.response

  pub names-pasted : {m e : List ℕ} (d : List ℕ) (at : ℕ) → m ≡ pasted d at (padded 32 (held (member_of s k key_name)))
      → e ≡ pasted m (at + 32) (padded 32 (entry_at s first k).rand) → at + 64 ≤ length d
      → e ≡ pasted d at (padded 32 (entry_at s first k).key ++ padded 32 (entry_at s first k).rand)
  unfolding entry_at
  names-pasted d at f g h =
      two-padded d at 32 32 (entry_at s first k).key (entry_at s first k).rand f g r.key r.rand h

  pub packets-pasted : {m e : List ℕ} (d : List ℕ) (at : ℕ)
      → m ≡ pasted d at (padded 2000 (held (member_of s k request_name)))
      → e ≡ pasted m (at + 2000) (padded 2000 (held (member_of s k response_name))) → at + 4000 ≤ length d
      → e ≡ pasted d at (padded 2000 (entry_at s first k).request ++ padded 2000 (entry_at s first k).response)
  unfolding entry_at
  packets-pasted d at f g h =
      two-padded d at 2000 2000 (entry_at s first k).request (entry_at s first k).response f g r.request
      r.response h

  names-length : length (padded 32 (entry_at s first k).key ++ padded 32 (entry_at s first k).rand) ≡ 64
  names-length = length-append (padded 32 (entry_at s first k).key) (padded 32 (entry_at s first k).rand)
      ∙ omega (
        arith,
        length-padded 32 (entry_at s first k).key r.key,
        length-padded 32 (entry_at s first k).rand r.rand,
      )

  packets-length : length (padded 2000 (entry_at s first k).request ++ padded 2000 (entry_at s first k).response) ≡ 4000
  packets-length = length-append (padded 2000 (entry_at s first k).request) (padded 2000 (entry_at s first k).response)
      ∙ omega (
        arith,
        length-padded 2000 (entry_at s first k).request r.request,
        length-padded 2000 (entry_at s first k).response r.response,
      )

  -- the whole record
  pub record-length : length (record_of (entry_at s first k)) ≡ 4096
  unfolding record_of
  record-length =
      length-record (padded 32 (entry_at s first k).key) (padded 32 (entry_at s first k).rand)
      (entry_at s first k).request (entry_at s first k).response
      (length-padded 32 (entry_at s first k).key r.key) (length-padded 32 (entry_at s first k).rand r.rand)
      r.request r.response

  pub record-pasted : {o₁ o₂ o₃ o₄ : List ℕ} (q a : ℕ) (d : List ℕ) (at : ℕ)
      → o₁ ≡ pasted d at (padded 32 (entry_at s first k).key ++ padded 32 (entry_at s first k).rand)
      → o₂ ≡ pasted o₁ (at + 64) (le_bytes 4 q ++ le_bytes 4 a)
      → o₃ ≡ pasted o₂ (at + 72) (replicate 24 0)
      → o₄ ≡ pasted o₃ (at + 96) (padded 2000 (entry_at s first k).request ++ padded 2000 (entry_at s first k).response)
      → q ≡ length (held (member_of s k request_name)) → a ≡ length (held (member_of s k response_name))
      → at + 4096 ≤ length d
      → o₄ ≡ pasted d at (record_of (entry_at s first k))
  unfolding entry_at
  record-pasted q a d at e₁ e₂ e₃ e₄ hq ha h =
      four-pasted d _ _ _ _ at names-length (lengths-length _ _) (length-replicate {A = ℕ} 24 0) packets-length e₁
      (rw (hq, ha) at e₂) e₃ e₄ h
      ∙ ap (pasted d at) (sym (record-parts (entry_at s first k)))

-- ---- What is known of the strings of an entry that can be written.
good-32 : (d : Decoded) → is32 d ≡ true → good d ≡ true
unfolding is32
good-32 (bytes x) e = refl
good-32 none e = e

module _ {s : List ℕ} {first : Bool} {e : Spot} (r : Writable s first e) where
  after-brace : both (rand_good s first e.at) (both (is32 (member_of s e.at key_name))
      (both (is64 (member_of s e.at request_name)) (is64 (member_of s e.at response_name)))) ≡ true
  unfolding has_all
  after-brace = both_right _ _ r.all

  pub good-key : good (decode64 (content_at s e.key)) ≡ true
  good-key = rw r.spot.key (good-32 _ (both_left _ _ (both_right _ _ after-brace)))

  pub good-rand : first ≡ false → good (decode64 (content_at s e.rand)) ≡ true
  unfolding rand_good either
  good-rand h = rw (r.spot.rand h) (good-32 _ (rw h at (both_left _ _ after-brace)))

  pub good-request : good (decode64 (content_at s e.request)) ≡ true
  unfolding is64
  good-request = rw r.spot.request (both_left _ _ (both_right _ _ (both_right _ _ after-brace)))

  pub good-response : good (decode64 (content_at s e.response)) ≡ true
  unfolding is64
  good-response = rw r.spot.response (both_right _ _ (both_right _ _ (both_right _ _ after-brace)))

  pub short-key : length (plain (decode64 (content_at s e.key))) ≤ 32
  unfolding held
  short-key = rw r.spot.key (ready-key r.ready)

  pub short-rand : first ≡ false → length (plain (decode64 (content_at s e.rand))) ≤ 32
  unfolding held
  short-rand h = rw (r.spot.rand h) (ready-rand r.ready h)

  pub short-request : length (plain (decode64 (content_at s e.request))) ≤ 2000
  unfolding held
  short-request = rw r.spot.request (ready-request r.ready)

  pub short-response : length (plain (decode64 (content_at s e.response))) ≤ 2000
  unfolding held
  short-response = rw r.spot.response (ready-response r.ready)

  pub short-asked : e.asked ≤ 2000
  short-asked = omega (arith, r.spot.asked, ready-request r.ready)

  pub short-said : e.said ≤ 2000
  short-said = omega (arith, r.spot.said, ready-response r.ready)

  -- what is put is the member's
  pub of-key : (n : ℕ) → padded n (plain (decode64 (content_at s e.key))) ≡ padded n (held (member_of s e.at key_name))
  unfolding held
  of-key n = rw r.spot.key refl

  pub of-rand : (n : ℕ) → first ≡ false
      → padded n (plain (decode64 (content_at s e.rand))) ≡ padded n (held (member_of s e.at rand_name))
  unfolding held
  of-rand n h = rw (r.spot.rand h) refl

  pub of-request : (n : ℕ)
      → padded n (plain (decode64 (content_at s e.request))) ≡ padded n (held (member_of s e.at request_name))
  unfolding held
  of-request n = rw r.spot.request refl

  pub of-response : (n : ℕ)
      → padded n (plain (decode64 (content_at s e.response))) ≡ padded n (held (member_of s e.at response_name))
  unfolding held
  of-response n = rw r.spot.response refl
