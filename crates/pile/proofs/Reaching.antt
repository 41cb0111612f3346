-- What is known of records whose tests passed: their packets can be read.
use Prim.Native.Nat.{ℕ, ◌≤◌}
use mathlib.Core.Path.{◌≡◌, refl, sym, ◌∙◌}
use mathlib.Core.List.{List}
use mathlib.Core.Bool.{Bool, false}
use borrow.Author.Tests.{ltb-false}
use lib.ListN.{length}
use Rattle.laws.proofs.Any.{any-parts}
use Rattle.wire_packet.proofs.RequestCodes.{lent-body}
use Rattle.pile.specs.Pile.{request_length, response_length, request_area, response_area}
use Rattle.pile.specs.Facts.{Readable}
use Rattle.pile.specs.Links.{unreadable}
use Rattle.pile.specs.Valid.{area_bad, record_bad}

-- an area that is not bad has a packet of at most 2,000 bytes,
fits : (area : List ℕ) (n : ℕ) → area_bad area n ≡ false → n ≤ 2000
unfolding area_bad
fits area n g = ltb-false _ _ (any-parts _ _ g).0

-- and a record that is not bad has lengths of at most 2,000
pub lengths-fit : (r : List ℕ) {t : Bool} → t ≡ record_bad r → t ≡ false
    → (request_length r ≤ 2000) × (response_length r ≤ 2000)
unfolding record_bad
lengths-fit r e f =
    let a = any-parts _ _ (sym e ∙ f) in
    let b = any-parts _ _ a.1 in
    (fits (request_area r) (request_length r) a.0, fits (response_area r) (response_length r) b.0)

-- two records whose link can be read
pub within-reach : (b r : List ℕ) {t : Bool} → length b ≡ 4096 → length r ≡ 4096 → t ≡ unreadable b r → t ≡ false
    → Readable b r
unfolding unreadable
within-reach b r l m e f =
    let a = any-parts _ _ (sym e ∙ f) in
    let c = any-parts _ _ a.1 in
    let q = lent-body _ refl (any-parts _ _ c.1).0 in
    record {
      before-long = l;
      long = m;
      response-fits = ltb-false _ _ c.0;
      request-fits = ltb-false _ _ a.0;
      headed = q.0;
      asks = q.1;
    }
