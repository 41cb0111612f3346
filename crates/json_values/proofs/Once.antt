-- Each contract settles its result.
use mathlib.Core.Path.{◌≡◌, refl, sym, ◌∙◌}
use Rattle.laws.proofs.Once.{Settles}
use Rattle.json_values.specs.declared.Object.{Object}
use Rattle.json_values.proofs.values.item.Kinds as item-kinds
use Rattle.json_values.proofs.values.item.Reads as item-reads
use Rattle.json_values.proofs.values.value.Kinds as value-kinds
use Rattle.json_values.proofs.values.value.Reads as value-reads
use Rattle.json_values.proofs.values.is_text.Kinds as is-text-kinds
use Rattle.json_values.proofs.values.is_text.Reads as is-text-reads
use Rattle.json_values.proofs.values.member.Kinds as member-kinds
use Rattle.json_values.proofs.values.member.Reads as member-reads
use Rattle.json_values.proofs.names.is_named.Kinds as is-named-kinds
use Rattle.json_values.proofs.names.is_named.Reads as is-named-reads
use Rattle.json_values.proofs.names.find.Kinds as find-kinds
use Rattle.json_values.proofs.names.find.Reads as find-reads
use Rattle.json_values.proofs.objects.members.Kinds as members-kinds
use Rattle.json_values.proofs.objects.members.Reads as members-reads

pub item-once : Settles item-kinds.ps item-kinds.r item-reads.Learnt
item-once κs a x u y v p q = (p ∙ sym q, refl)

pub value-once : Settles value-kinds.ps value-kinds.r value-reads.Learnt
value-once κs a x u y v p q = (p ∙ sym q, refl)

pub is-text-once : Settles is-text-kinds.ps is-text-kinds.r is-text-reads.Learnt
is-text-once κs a x u y v p q = (p ∙ sym q, refl)

pub member-once : Settles member-kinds.ps member-kinds.r member-reads.Learnt
member-once κs a x u y v p q = (p ∙ sym q, refl)

pub is-named-once : Settles is-named-kinds.ps is-named-kinds.r is-named-reads.Learnt
is-named-once κs a x u y v p q = (p ∙ sym q, refl)

pub find-once : Settles find-kinds.ps find-kinds.r find-reads.Learnt
find-once κs a x u y v p q = (p ∙ sym q, refl)

pub members-once : Settles members-kinds.ps members-kinds.r members-reads.Learnt
members-once κs a x u y v p q = (
  same (p.0 ∙ sym q.0) (p.1.0 ∙ sym q.1.0) (p.1.1.0 ∙ sym q.1.1.0)
      (p.1.1.1.0 ∙ sym q.1.1.1.0) (p.1.1.1.1.0 ∙ sym q.1.1.1.1.0)
      (p.1.1.1.1.1 ∙ sym q.1.1.1.1.1),
  refl,
)
  where
    same : {r t : Object} → r.end ≡ t.end → r.a ≡ t.a → r.b ≡ t.b → r.c ≡ t.c → r.d ≡ t.d → r.e ≡ t.e
        → r ≡ t
    same {r} {t} end a b c d e = by
      where
        of : Object → Object
        of o = record { end = o.end; a = o.a; b = o.b; c = o.c; d = o.d; e = o.e }

        by : of r ≡ of t
        by = cc
