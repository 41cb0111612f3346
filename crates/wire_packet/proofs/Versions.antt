-- The test for a version decides whether it stands in the list; and the list that holds 1 and no other.
use Prim.Native.Nat.{ℕ, ◌/◌}
use mathlib.Core.Path.{◌≡◌, refl, ap}
use mathlib.Core.Bool.{false, not}
use mathlib.Core.List.{List}
use mathlib.Core.Logic.{◌↔◌}
use borrow.Author.Tests.{eq-eqb, eqb-true, not-false}
use lib.ListN.{length}
use native.Mathlib.Omega.{arith}
use Rattle.laws.specs.Any.{any}
use Rattle.laws.specs.Least.{least, somewhere}
use Rattle.laws.specs.Numbers.{le, le_bytes}
use Rattle.laws.proofs.Least.{somewhere-at, somewhere-here}
use Rattle.wire_message.specs.Rules.{versions_bad}
use Rattle.wire_message.specs.Sentences.{VersionList}
use Rattle.wire_message.proofs.Tests.{versions-test}
use Rattle.wire_packet.specs.Versions.{is_version, lacks_version, HoldsVersion}

pub version-test : (v : List ℕ) (x : ℕ) → lacks_version v x ≡ false ↔ HoldsVersion v x
unfolding lacks_version
version-test v x = (
  λ e.
      let s = somewhere-at (is_version v x) (length v / 4) (not-false _ e) in
      record { place = least (is_version v x) (length v / 4); inside = s.0; is = eqb-true _ _ s.1 },
  λ h. ap not (somewhere-here (is_version v x) (length v / 4) h.place h.inside (eq-eqb _ _ h.is)),
)

-- a list of versions that holds 1 and no other
abbrev pub one-version : List ℕ
one-version = le_bytes 4 1

pub versions-good : VersionList one-version
unfolding versions_bad any somewhere least le_bytes le
versions-good = (versions-test one-version).0 refl

pub version-held : HoldsVersion one-version 1
unfolding le_bytes le
version-held = record { place = 0; inside = omega arith; is = refl }
