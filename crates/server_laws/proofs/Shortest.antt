-- No response that says the same is shorter than the one that is written: each tag that a response must have takes
-- eight bytes of the header and its value, and tags that differ have values apart from each other.
use Prim.Native.Nat.{ℕ, zero-le, ◌+◌, ◌*◌, ◌≤◌, ◌<◌}
use mathlib.Core.Bool.{Bool, true, false, cond, ◌||◌, true≢false}
use mathlib.Core.List.{List, [], ◌∷◌}
use mathlib.Core.Path.{◌≡◌, refl, sym, ap, ◌∙◌}
use native.Mathlib.Omega.{arith}
use borrow.Author.Tests.{eqb-true, ne_eqb}
use lib.Dec.{eqb}
use lib.ListN.{length, length-append}
use Rattle.wire_message.specs.Encode.{Field, Fields, values, encode, among, value_among}
use Rattle.wire_message.specs.Tags.{SIG, VER, NONC, TYPE, PATH, RADI, MIDP, SREP, VERS, ROOT, CERT, INDX}
use Rattle.wire_message.proofs.Encoded.{length-encoded}
use Rattle.server_response.specs.Response.{Reply, response_bytes}
use Rattle.server_response.proofs.Pieces.{Sized, length-response}
use Rattle.wire_packet.specs.Good.{GoodResponse}
use Rattle.wire_packet.proofs.GoodResponse.{response-value}
use Rattle.wire_packet.proofs.Packets.{length-packet}
use Rattle.server_laws.specs.Answerable.{Says}

-- ---- the bytes that fields take

-- the eight bytes of the header and the value of each
size : List Field → ℕ
size [] = 0
size (f ∷ fs) = 8 + length f.value + size fs

size_is : (fs : List Field) → size fs ≡ 8 * length fs + length (values fs)
unfolding size values
size_is [] = refl
size_is (f ∷ fs) = rw (length-append, size_is fs) (omega arith)

size-encoded : (fs : List Field) → Fields fs → length (encode fs) ≡ size fs
size-encoded fs ok = length-encoded fs ok ∙ sym (size_is fs)

-- the fields without the first of a tag
without : ℕ → List Field → List Field
without tag [] = []
without tag (f ∷ fs) = cond (eqb f.tag tag) fs (f ∷ without tag fs)

size-without : (tag : ℕ) (fs : List Field) → among tag fs ≡ true
    → size fs ≡ 8 + length (value_among tag fs) + size (without tag fs)
unfolding size without among value_among
size-without tag [] h = absurd (true≢false (sym h))
size-without tag (f ∷ fs) h = by (eqb f.tag tag) (size-without tag fs) h
  where
    by : (t : Bool)
        → (among tag fs ≡ true → size fs ≡ 8 + length (value_among tag fs) + size (without tag fs))
        → t || among tag fs ≡ true
        → 8 + length f.value + size fs
        ≡ 8 + length (cond t f.value (value_among tag fs)) + size (cond t fs (f ∷ without tag fs))
    by true more e = refl
    by false more e = omega (arith, more e)

-- what is said of another tag stays
module _ (tag other : ℕ) (differ : tag ≡ other → ⊥) where
  is-other : (f : Field) → eqb f.tag tag ≡ true → eqb f.tag other ≡ false
  is-other f e = ne_eqb f.tag other (λ q. differ (sym (eqb-true f.tag tag e) ∙ q))

  among-without : (fs : List Field) → among other (without tag fs) ≡ among other fs
  unfolding without among
  among-without [] = refl
  among-without (f ∷ fs) = by (eqb f.tag tag) refl (among-without fs)
    where
      by : (t : Bool) → eqb f.tag tag ≡ t → among other (without tag fs) ≡ among other fs
          → among other (cond t fs (f ∷ without tag fs)) ≡ eqb f.tag other || among other fs
      by true e more = rw (is-other f e)
      by false e more = ap (λ (b : Bool). eqb f.tag other || b) more

  value-without : (fs : List Field) → value_among other (without tag fs) ≡ value_among other fs
  unfolding without value_among
  value-without [] = refl
  value-without (f ∷ fs) = by (eqb f.tag tag) refl (value-without fs)
    where
      by : (t : Bool) → eqb f.tag tag ≡ t → value_among other (without tag fs) ≡ value_among other fs
          → value_among other (cond t fs (f ∷ without tag fs))
          ≡ cond (eqb f.tag other) f.value (value_among other fs)
      by true e more = rw (is-other f e)
      by false e more = ap (λ (v : List ℕ). cond (eqb f.tag other) f.value v) more

-- ---- the bytes that some tags take among fields

need : List ℕ → List Field → ℕ
need [] fs = 0
need (tag ∷ tags) fs = 8 + length (value_among tag fs) + need tags fs

abbrev There : List ℕ → List Field → Type 0
There [] fs = Unit {0}
There (tag ∷ tags) fs = (among tag fs ≡ true) × There tags fs

-- they rise, from above a number
abbrev Rise : ℕ → List ℕ → Type 0
Rise n [] = Unit {0}
Rise n (tag ∷ tags) = (n < tag) × Rise tag tags

module _ (tag : ℕ) (fs : List Field) where
  need-without : (n : ℕ) (tags : List ℕ) → tag ≤ n → Rise n tags → need tags (without tag fs) ≡ need tags fs
  unfolding need
  need-without n [] h r = refl
  need-without n (other ∷ tags) h r =
      let v = value-without tag other (λ q. omega (arith, r.0)) fs in
      omega (arith, ap length v, need-without other tags (omega (arith, r.0)) r.1)

  there-without : (n : ℕ) (tags : List ℕ) → tag ≤ n → Rise n tags → There tags fs → There tags (without tag fs)
  there-without n [] h r t = tt
  there-without n (other ∷ tags) h r t = (
    among-without tag other (λ q. omega (arith, r.0)) fs ∙ t.0,
    there-without other tags (omega (arith, r.0)) r.1 t.1,
  )

-- at least those are there
least_size : (n : ℕ) (tags : List ℕ) (fs : List Field) → Rise n tags → There tags fs → need tags fs ≤ size fs
unfolding need
least_size n [] fs r t = zero-le
least_size n (tag ∷ tags) fs r t =
    let rest = there-without tag fs tag tags (omega arith) r.1 t.1 in
    omega (
      arith,
      size-without tag fs t.0,
      need-without tag fs tag tags (omega arith) r.1,
      least_size tag tags (without tag fs) r.1 rest,
    )

-- ---- a response

module _ (p : List ℕ) (g : GoodResponse p) where
  -- SREP has at least what is written: VER, RADI, MIDP, one version and ROOT
  srep-least : 92 ≤ length (value_among SREP g.fields)
  unfolding need
  srep-least =
      let fs = g.srep.fields in
      let tags : List ℕ = VER ∷ RADI ∷ MIDP ∷ VERS ∷ ROOT ∷ [] in
      let rise : Rise 0 tags = (omega arith, (omega arith, (omega arith, (omega arith, (omega arith, tt))))) in
      let there : There tags fs =
      (g.ver.there, (g.radi.there, (g.midp.there, (g.vers.there, (g.root.there, tt))))) in
      omega (
        arith,
        least_size 0 tags fs rise there,
        ap length g.srep.is ∙ size-encoded fs g.srep.kept,
        g.ver.right,
        g.radi.right.four,
        g.midp.right,
        g.vers.right.one,
        g.root.right,
      )

  pub none-shorter : (a : Reply) → Sized a → Says p a → length (response_bytes a) ≤ length p
  unfolding need
  none-shorter a ok says =
      let fs = g.fields in
      let tags : List ℕ = SIG ∷ NONC ∷ TYPE ∷ PATH ∷ SREP ∷ CERT ∷ INDX ∷ [] in
      let rise : Rise 0 tags =
      (omega arith, (omega arith, (omega arith, (omega arith, (omega arith, (omega arith, (omega arith, tt))))))) in
      let there : There tags fs = (
        g.sig.there,
        (g.nonc.there, (g.type.there, (g.path.there, (g.srep.there, (g.cert.there, (g.indx.there, tt)))))),
      ) in
      omega (
        arith,
        length-response a ok,
        ap length g.packet.is ∙ length-packet (encode fs),
        size-encoded fs g.packet.kept,
        least_size 0 tags fs rise there,
        g.sig.right,
        g.nonc.right,
        g.type.right,
        ap length (sym (response-value p g PATH) ∙ says.path),
        srep-least,
        ap length (sym (response-value p g CERT) ∙ says.cert),
        g.indx.right,
      )
