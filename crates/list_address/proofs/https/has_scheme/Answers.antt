use Prim.Native.Nat.{ℕ}
use mathlib.Core.Path.{◌∙◌, ap}
use lib.Dec.{eqb}
use borrow.Author.Rules.{rules}
use borrow.Author.Tests.{tests, lt-leb}
use Rattle.std.proofs.lemmas.Iterator.{YieldsList-from_slice, YieldsList-from_zip}
use Rattle.std.proofs.lemmas.Iterator.Search.{all_from_yields_List}
use Rattle.laws.specs.Ascii.{ascii}
use Rattle.list_address.specs.Https.{lower, differs_at, has_scheme}
use Rattle.list_address.proofs.Scans.{zip-all}
use Rattle.list_address.proofs.Schemes.{scheme-short}
use Rattle.list_address.proofs.Lower.{lower_of}
use Rattle.list_address.proofs.https.has_scheme.Goals as goal

pub returns-then-s-ge8 : goal.returns-then-s-ge8
unfolding has_scheme differs_at
returns-then-s-ge8 c =
    let s = c.args.s.now in
    let w = ascii "https://" in
    let e = all_from_yields_List {v = λ x. (x.0.now, x.1.now)} (λ (b : ℕ × ℕ). eqb (lower b.0) b.1) c.all.new.self _ c.all.result c.all.ensures.ran
    (YieldsList-from_zip {s = c.zip.result} (YieldsList-from_slice {s = c.zip.result.a} s (ap (λ i. i.rest.now) c.zip.ensures.first ∙ c.iter.ensures.rest)) (YieldsList-from_slice {s = c.zip.result.b} w (search rules)))
    (λ x b q k. search (rules, tests, lower_of)) in
    e ∙ zip-all (λ b w. eqb (lower b) w) s w c.if-s-ge8.true

pub returns-else-s-ge8 : goal.returns-else-s-ge8
returns-else-s-ge8 c = lt-leb 8 _ c.if-s-ge8.false ∙ scheme-short c.args.s.now c.if-s-ge8.false
