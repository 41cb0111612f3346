-- From the marks to the batch: what the parts promise by the marks is what the definitions say of the batch.
use mathlib.Core.Bool.{Bool, true, false, not, cond, ◌&&◌, ◌||◌}
use mathlib.Core.List.{List, [], ◌∷◌, ◌++◌}
use mathlib.Core.Path.{◌≡◌, refl, sym, ap, ap₂, ◌∙◌}
use Prim.Native.Nat.{ℕ, zero, suc, ◌+◌, ◌*◌, ◌≤◌, ◌<◌}
use native.Mathlib.Omega.{arith}
use borrow.Author.Tests.{leb-true, not-true}
use lib.Dec.{eqb, leb}
use lib.ListN.{length, drop, get_or, length-append, get_or-append}
use Rattle.laws.specs.Pasted.{pasted, fronted}
use Rattle.laws.specs.Upto.{upto}
use Rattle.laws.proofs.Holds.{both}
use Rattle.laws.proofs.Upto.{upto-length, upto-at}
use Rattle.laws.specs.Same.{same}
use Rattle.wire_message.specs.Tags.{SRV}
use Rattle.wire_message.specs.Values.{has, value_of}
use Rattle.wire_packet.specs.Packet.{body}
use Rattle.wire_packet.specs.Request.{request_bad}
use Rattle.server_batch.specs.Answering.{out_after}
use Rattle.server_batch.specs.Batch.{Batch, count, size_at, packet_at, meant_for, meant_at, answered_at}
use Rattle.server_batch.specs.Picking.{how_many, picked}
use Rattle.server_batch.specs.Steps.{Slots, mark_at, stay_at, Held}

-- ---- Tests that agree below n

module _ (p q : ℕ → Bool) where
  pub many-same : (n : ℕ) → ((i : ℕ) → i < n → p i ≡ q i) → how_many p n ≡ how_many q n
  unfolding how_many
  many-same zero h = refl
  many-same (suc n) h =
      ap₂ (λ (t : Bool) (k : ℕ). cond t (suc k) k) (h n (omega arith)) (many-same n (λ i g. h i (omega arith)))

  pub picked_same : (f : ℕ → List ℕ) (n : ℕ) → ((i : ℕ) → i < n → p i ≡ q i) → picked p f n ≡ picked q f n
  unfolding picked
  picked_same f zero h = refl
  picked_same f (suc n) h =
      ap₂ (λ (t : Bool) (l : List (List ℕ)). cond t (l ++ (f n ∷ [])) l) (h n (omega arith))
      (picked_same f n (λ i g. h i (omega arith)))

  pub out-same : (f g : ℕ → List ℕ) (room : ℕ) (o : List ℕ) (n : ℕ) → ((i : ℕ) → i < n → p i ≡ q i)
      → ((i : ℕ) → i < n → q i ≡ true → f i ≡ g i) → out_after p f room o n ≡ out_after q g room o n
  unfolding out_after
  out-same f g room o zero h e = refl
  out-same f g room o (suc n) h e =
      ap₂ (λ (t : Bool) (l : List ℕ). cond t (pasted l (room * n) (f n)) l) (h n (omega arith))
      (out-same f g room o n (λ i l. h i (omega arith)) (λ i l. e i (omega arith)))
      ∙ here (q n) (out_after q g room o n) (e n (omega arith))
    where
      here : (t : Bool) (l : List ℕ) → (t ≡ true → f n ≡ g n)
          → cond t (pasted l (room * n) (f n)) l ≡ cond t (pasted l (room * n) (g n)) l
      here true l s = ap (pasted l (room * n)) (s refl)
      here false l s = refl

-- ---- The marks

-- a packet that is meant for the server is within its slot and a good request
meant-good : (srv p : List ℕ) → meant_for srv p ≡ true → request_bad p ≡ false
unfolding meant_for
meant-good srv p e =
    not-true (request_bad p)
    (both (not (request_bad p)) (not (has (body p) SRV) || same (value_of (body p) SRV) srv) e).0

pub meant-parts : (b : Batch) (i : ℕ) → meant_at b i ≡ true → (size_at b i ≤ b.slot) ×
    (request_bad (packet_at b i) ≡ false)
unfolding meant_at
meant-parts b i e =
    let both = both (leb (size_at b i) b.slot) (meant_for b.srv (packet_at b i)) e in
    (leb-true (size_at b i) b.slot both.0, meant-good b.srv (packet_at b i) both.1)

-- an answered packet is meant for the server
pub answered-meant : (b : Batch) (m i : ℕ) → answered_at b m i ≡ true → meant_at b i ≡ true
unfolding answered_at
answered-meant b m i e = (both (meant_at b i) _ e).0

mark-one : (t : Bool) → ◌≡◌ {A = ℕ} (cond t 1 0) 1 → t ≡ true
mark-one true e = refl
mark-one false e = absurd (omega arith)

mark-test : (t : Bool) → eqb (cond t 1 0) 1 ≡ t
mark-test true = refl
mark-test false = refl

module _ (b : Batch) (o marks : List ℕ) (slots : Slots b) (room : count b ≤ length o)
    (made : marks ≡ fronted (upto (mark_at b) (count b)) o) where
  mark-is : (i : ℕ) → i < count b → get_or marks i 0 ≡ mark_at b i
  mark-is i h =
      ap (λ (l : List ℕ). get_or l i 0) made
      ∙ get_or-append (upto (mark_at b) (count b)) _ 0 i (rw upto-length h)
      ∙ upto-at (mark_at b) (count b) i 0 h

  meant : (i : ℕ) → i < count b → get_or marks i 0 ≡ 1 → meant_at b i ≡ true
  meant i h e = mark-one (meant_at b i) (sym (mark-is i h) ∙ e)

  pub stay-same : (least i : ℕ) → i < count b → stay_at marks b.lengths least i ≡ answered_at b least i
  unfolding stay_at answered_at
  stay-same least i h =
      ap (λ (x : ℕ). eqb x 1 && leb least (size_at b i)) (mark-is i h)
      ∙ ap (λ (t : Bool). t && leb least (size_at b i)) (mark-test (meant_at b i))

  pub marks-long : count b ≤ length marks
  marks-long =
      ap-long (ap length made ∙ length-append (upto (mark_at b) (count b)) _)
    where
      ap-long : length marks ≡ length (upto (mark_at b) (count b)) + length (drop (length (upto (mark_at b) (count b))) o)
          → count b ≤ length marks
      ap-long e = omega (arith, e, upto-length (mark_at b) (count b))

  pub marks-held : Held b.packets b.slot b.lengths marks
  marks-held =
      record {
        few = slots.few;
        whole = slots.whole;
        marked = marks-long;
        inside = λ i h e. (meant-parts b i (meant i h e)).0;
        good = λ i h e. (meant-parts b i (meant i h e)).1;
      }
