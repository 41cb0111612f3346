use Prim.Native.Nat.{◌≤◌}
use mathlib.Core.Bool.{not}
use mathlib.Core.Path.{◌≡◌, ◌∙◌, sym, ap, ap₂}
use native.Mathlib.Omega.{arith}
use lib.ListN.{length, drop}
use borrow.Author.Rules.{rules}
use Rattle.std.proofs.lemmas.Iterator.{YieldsList-from_slice}
use Rattle.std.proofs.lemmas.Iterator.Search.{position_from_yields_List}
use lib.Dec.{eqb}
use Rattle.std.specs.List.{list_any}
use Rattle.std.specs.Option.{unwrap_or}
use Rattle.laws.specs.Ascii.{ascii}
use Rattle.list_address.specs.Chars.{one_of}
use Rattle.list_address.specs.Https.{is_authority, is_rest, is_https}
use Rattle.list_address.proofs.Scans.{any_somewhere}
use Rattle.list_address.proofs.Schemes.{scheme-long, authority-part, rest-part}
use Rattle.list_address.proofs.Tails.{tail_all}
use Rattle.list_address.proofs.Tests.{both-stop, both-on}
use Rattle.list_address.proofs.https.is_https.Goals as goal

pub returns-then-not-has_scheme : goal.returns-then-not-has_scheme
unfolding is_https
returns-then-not-has_scheme c = both-stop _ c.has_scheme.ensures (ap not c.if-not-has_scheme.true)

pub slice_bounds-behind-count : goal.slice_bounds-behind-count
slice_bounds-behind-count c = scheme-long _ (sym c.has_scheme.ensures ∙ c.if-not-has_scheme.false)

pub slice_bounds-behind-start : goal.slice_bounds-behind-start
slice_bounds-behind-start c =
    let l : 8 ≤ length c.args.x.now = scheme-long _ (sym c.has_scheme.ensures ∙ c.if-not-has_scheme.false) in
    omega arith

pub returns-then-is_authority : goal.returns-then-is_authority
unfolding is_https one_of
returns-then-is_authority c =
    let x = c.args.x.now in
    let tail = tail_all 8 x in
    let p = position_from_yields_List (one_of (ascii "/?#")) _ _ c.position.result c.position.ensures.ran
    (YieldsList-from_slice (drop 8 x) (c.iter.ensures.rest ∙ tail))
    (λ y b q k.
    let h : (q ≡ record {}) × (b ≡ list_any (λ z. eqb z y.now) (ascii "/?#")) = search rules in
    (h.0, h.1 ∙ any_somewhere (λ z. eqb z y.now) (ascii "/?#"))) in
    let e = c.unwrap_or-e.ensures ∙ ap₂ unwrap_or p (ap length tail) in
    both-on c.has_scheme.ensures (ap not c.if-not-has_scheme.false)
    (both-on (c.is_authority.ensures ∙ ap is_authority (authority-part x tail e)) (ap not c.if-is_authority.true)
    (c.is_rest.ensures ∙ ap is_rest (rest-part x tail e)))

pub returns-else-is_authority : goal.returns-else-is_authority
unfolding is_https one_of
returns-else-is_authority c =
    let x = c.args.x.now in
    let tail = tail_all 8 x in
    let p = position_from_yields_List (one_of (ascii "/?#")) _ _ c.position.result c.position.ensures.ran
    (YieldsList-from_slice (drop 8 x) (c.iter.ensures.rest ∙ tail))
    (λ y b q k.
    let h : (q ≡ record {}) × (b ≡ list_any (λ z. eqb z y.now) (ascii "/?#")) = search rules in
    (h.0, h.1 ∙ any_somewhere (λ z. eqb z y.now) (ascii "/?#"))) in
    let e = c.unwrap_or-e.ensures ∙ ap₂ unwrap_or p (ap length tail) in
    c.if-is_authority.false
    ∙ both-on c.has_scheme.ensures (ap not c.if-not-has_scheme.false)
    (both-stop _ (c.is_authority.ensures ∙ ap is_authority (authority-part x tail e)) (ap not c.if-is_authority.false))
