-- The windows of a clock, as they cross to C and back: nothing of them is lost either way.
use Prim.Native.Nat.{ℕ, ◌<◌}
use mathlib.Core.Path.{◌≡◌, refl, sym, ◌∙◌}
use mathlib.Core.List.{List}
use native.Mathlib.Omega.{arith}
use denote.Param.Members.{Mut}
use lib.ListN.{length, get_or}
use lib.Seq.{ext_get_or}
use Rattle.std.specs.Prelude.{map}
use Rattle.std.specs.Fn.{Called}
use Rattle.std.specs.Array.{IsMapOf}
use Rattle.std.proofs.Math.ListN.{get_or-map}
use Rattle.std.proofs.lemmas.List.{length-map}
use Rattle.laws.specs.Upto.{upto}
use Rattle.laws.proofs.Upto.{upto-length, upto-at}
use Rattle.clock_spans.specs.declared.Kept.{Kept}
use Rattle.clock.specs.State.{no_window}
use Rattle.c_packets.specs.Clocking.{row_of, rows_of, columns_of}
use Rattle.c_packets.specs.declared.clocking.Columns.{Columns}

-- an array of what a closure, which answers with h of what it is given, gives of each window
module _ {F : Type 0} (g : Mut F (Kept × Unit {0}) ℕ) (h : Kept → ℕ) (f : F) (ws : List Kept) (ns : List ℕ)
    (calls : (p q : F) (w : Kept) (n : ℕ) → Called g p (w, tt) n q → n ≡ h w) where
  pub mapped : (k : ℕ) → length ws ≡ k → IsMapOf g f ws ns k → ns ≡ map h ws
  mapped k long m =
      ext_get_or (h no_window) ns (map h ws) (m.long ∙ sym long ∙ sym (length-map ws h))
      (λ i l.
      let c = m.at i no_window (h no_window) (omega (arith, m.long)) in
      calls c.0 c.1 _ _ c.2 ∙ sym (get_or-map h ws i no_window))

-- a column of the rows is the column
column-back : (k : Columns) (of : Kept → ℕ) (ns : List ℕ) → of no_window ≡ 0 → length ns ≡ 16
    → ((i : ℕ) → i < 16 → of (row_of k i) ≡ get_or ns i 0) → map of (rows_of k) ≡ ns
column-back k of ns z long e =
    ext_get_or 0 (map of (rows_of k)) ns (length-map (rows_of k) of ∙ upto-length (row_of k) 16 ∙ sym long)
    (λ i l.
    let below : i < 16 = rw (length-map (rows_of k) of, upto-length (row_of k) 16) at l in
    rw (← z)
    (get_or-map of (rows_of k) i no_window ∙ rw (upto-at (row_of k) 16 i no_window below) (rw z (e i below))))

-- columns, and windows, are the same where their fields are
same-columns : {a b c d e i j k l m : List ℕ} → a ≡ i → b ≡ j → c ≡ k → d ≡ l → e ≡ m
    → ◌≡◌ {A = Columns} (record { low = a; high = b; maxt = c; sent = d; received = e })
    (record { low = i; high = j; maxt = k; sent = l; received = m })
same-columns p q r s t = cc

same-window : {a b c d e i j k l m : ℕ} → a ≡ i → b ≡ j → c ≡ k → d ≡ l → e ≡ m
    → ◌≡◌ {A = Kept} (record { low = a; high = b; maxt = c; sent = d; received = e })
    (record { low = i; high = j; maxt = k; sent = l; received = m })
same-window p q r s t = cc

-- the fields of a struct that has room for sixteen windows are those of its windows
pub columns-back : (k : Columns) → length k.low ≡ 16 → length k.high ≡ 16 → length k.maxt ≡ 16 → length k.sent ≡ 16
    → length k.received ≡ 16 → columns_of (rows_of k) ≡ k
columns-back k l h m s r =
    same-columns (column-back k (λ w. w.low) k.low refl l (λ i b. refl))
    (column-back k (λ w. w.high) k.high refl h (λ i b. refl))
    (column-back k (λ w. w.maxt) k.maxt refl m (λ i b. refl))
    (column-back k (λ w. w.sent) k.sent refl s (λ i b. refl))
    (column-back k (λ w. w.received) k.received refl r (λ i b. refl))

-- and sixteen windows are those of their fields
pub rows-back : (ws : List Kept) → length ws ≡ 16 → rows_of (columns_of ws) ≡ ws
rows-back ws long =
    ext_get_or no_window (rows_of (columns_of ws)) ws (upto-length (row_of (columns_of ws)) 16 ∙ sym long)
    (λ i l.
    let below : i < 16 = rw (upto-length (row_of (columns_of ws)) 16) at l in
    upto-at (row_of (columns_of ws)) 16 i no_window below
    ∙ same-window (get_or-map (λ (w : Kept). w.low) ws i no_window) (get_or-map (λ (w : Kept). w.high) ws i no_window)
    (get_or-map (λ (w : Kept). w.maxt) ws i no_window) (get_or-map (λ (w : Kept). w.sent) ws i no_window)
    (get_or-map (λ (w : Kept). w.received) ws i no_window))
