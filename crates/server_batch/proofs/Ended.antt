-- What is left of a batch is what the definitions say: where no packet is answered, and where some are.
use mathlib.Core.Bool.{Bool, true, false, cond}
use mathlib.Core.List.{List, [], ◌∷◌, ◌++◌}
use mathlib.Core.Path.{◌≡◌, refl, sym, ap, ap₂, ◌∙◌}
use Prim.Native.Nat.{ℕ, zero, suc, ◌+◌, ◌*◌, ◌-◌, ◌≤◌, ◌<◌}
use native.Mathlib.Omega.{arith}
use borrow.Author.Tests.{ne_eqb, eq-eqb}
use lib.ListN.{length, drop}
use lib.Seq.{drop_at}
use Rattle.laws.specs.Flat.{flat}
use Rattle.laws.specs.Pasted.{pasted, fronted}
use Rattle.laws.specs.Upto.{upto}
use Rattle.laws.specs.Written.{written}
use Rattle.laws.proofs.Pasted.{pasted-none}
use Rattle.laws.proofs.Upto.{upto-length, upto-same}
use Rattle.hash.proofs.Lengths.{length-leaf}
use Rattle.tree.specs.Tree.{depth_of, node_in, root_of, path_of}
use Rattle.tree.proofs.Nodes.{Whole}
use Rattle.tree_build.specs.AllRows.{nodes_of, path_in}
use Rattle.tree_build.specs.Building.{rows_bytes}
use Rattle.tree_build.specs.Leaves.{most}
use Rattle.wire_packet.proofs.RequestCodes.{lent-body}
use Rattle.server_response.specs.Response.{reply, response_bytes}
use Rattle.server_response.proofs.Pieces.{length-response}
use Rattle.server_batch.specs.Answering.{rows_left, out_left, lengths_left, out_after, signature_over}
use Rattle.server_batch.specs.Batch.{Batch, count, answered_at, answers, place_of, leaves, depth_in, root_in}
use Rattle.server_batch.specs.Batch.{answer_at, packet_at}
use Rattle.server_batch.specs.Picking.{how_many, picked}
use Rattle.server_batch.specs.Steps.{stay_at, length_in, mark_at, answers_in, answer_in, said_of, PutLeaves, Served}
use Rattle.server_batch.specs.Steps.{leaf_in, Left}
use Rattle.server_batch.proofs.Batched.{many-same, picked_same, out-same, meant-parts, answered-meant}
use Rattle.server_batch.proofs.Picked.{many_below}
use Rattle.server_batch.proofs.Left.{picked-length, picked-whole, left-rows, left-root, left-path, left-length}

-- a second list at the front takes the place of a first that is as long
pub front-over : (x y o : List ℕ) → length x ≡ length y → fronted y (fronted x o) ≡ fronted y o
front-over x y o e =
    ap (λ (l : List ℕ). y ++ l)
    (ap (λ (n : ℕ). drop n (x ++ drop (length x) o)) (sym e)
    ∙ drop_at x (drop (length x) o) (length x) refl
    ∙ ap (λ (n : ℕ). drop n o) e)

-- nothing is answered
none-holds : (p : ℕ → Bool) (n : ℕ) → how_many p n ≡ 0 → (i : ℕ) → i < n → p i ≡ false
none-holds p n z i h = by (p i) refl
  where
    by : (t : Bool) → p i ≡ t → t ≡ false
    by true e = absurd (omega (arith, z, many_below p i e n h))
    by false e = refl

out_none : (p : ℕ → Bool) (f : ℕ → List ℕ) (room : ℕ) (o : List ℕ) (n : ℕ) → ((i : ℕ) → i < n → p i ≡ false)
    → out_after p f room o n ≡ o
unfolding out_after
out_none p f room o zero h = refl
out_none p f room o (suc n) h =
    ap (λ (t : Bool). cond t (pasted (out_after p f room o n) (room * n) (f n)) (out_after p f room o n))
    (h n (omega arith))
    ∙ out_none p f room o n (λ i g. h i (omega arith))

-- the two replies are the same
reply-same : (packet : List ℕ) (midp radi : ℕ) (cert : List ℕ) {i j : ℕ} {r s u v x y : List ℕ} → i ≡ j → r ≡ s → u ≡ v
    → x ≡ y → response_bytes (reply packet i r u midp radi cert x) ≡ response_bytes (reply packet j s v midp radi cert y)
reply-same packet midp radi cert e f g h = rw (e, f, g, h)

module _ (b : Batch) (m : ℕ) (cert seed : List ℕ) (midp radi room : ℕ) (o marks rows out : List ℕ)
    (made : marks ≡ fronted (upto (mark_at b) (count b)) o)
    (same : (i : ℕ) → i < count b → stay_at marks b.lengths m i ≡ answered_at b m i) where
  abbrev st : ℕ → Bool
  st = stay_at marks b.lengths m

  abbrev leaf : ℕ → List ℕ
  leaf = leaf_in b.packets b.slot b.lengths

  abbrev signature : List ℕ
  signature = signature_over seed (root_in b m) midp radi

  abbrev told : ℕ → ℕ
  told i = cond (answered_at b m i) (length (answer_at b m midp radi cert signature i)) 0

  -- the lengths, where each is told
  ended-lengths : (f : ℕ → ℕ) → ((i : ℕ) → i < count b → f i ≡ told i)
      → fronted (upto f (count b)) marks ≡ lengths_left b m cert signature midp radi o
  unfolding lengths_left
  ended-lengths f h =
      ap₂ (λ (x y : List ℕ). fronted x y) (upto-same f told (count b) h) made
      ∙ front-over (upto (mark_at b) (count b)) (upto told (count b)) o
      (upto-length (mark_at b) (count b) ∙ sym (upto-length told (count b)))

  module _ {k : ℕ} {r : List ℕ} (put : PutLeaves st leaf (count b) rows r k) (is : k ≡ answers b m) where
    -- no packet is answered
    pub ended-none : {lengths : List ℕ} → k ≡ 0 → lengths ≡ fronted
        (upto (length_in marks b.lengths m 0) (count b)) marks
        → Left b m cert seed midp radi room rows out o r out lengths 0
    unfolding rows_left out_left length_in flat
    ended-none z e =
        let zero_of : answers b m ≡ 0 = sym is ∙ z in
        let fails = none-holds (answered_at b m) (count b) zero_of in
        let xs = picked st leaf (count b) in
        let no : xs ≡ [] = empty xs (picked-length st leaf (count b) ∙ sym put.many ∙ z) in
        record {
          many = sym zero_of;
          of-rows =
              put.puts.is ∙ ap (λ (l : List (List ℕ)). pasted rows 0 (flat l)) no ∙ pasted-none rows 0
              ∙ sym (simp (eq-eqb (answers b m) 0 zero_of));
          of-out = sym (out_none (answered_at b m) _ room out (count b) fails);
          of-lengths = e ∙ ended-lengths _ (λ i h. zeros (st i) ∙ sym (rw (fails i h)));
        }
      where
        empty : (l : List (List ℕ)) → length l ≡ 0 → l ≡ []
        empty [] q = refl
        empty (x ∷ l) q = absurd (omega arith)

        zeros : (t : Bool) → ◌≡◌ {A = ℕ} (cond t 0 0) 0
        zeros true = refl
        zeros false = refl

    -- some are
    module _ (some : 0 < k) (few : k ≤ most) (space : 32 * nodes_of (depth_of k) ≤ length rows) {r2 out2 : List ℕ}
        (served : Served b.packets b.slot b.lengths marks m k cert seed midp radi room r out r2 out2) where
      abbrev xs : List (List ℕ)
      xs = picked st leaf (count b)

      abbrev d : ℕ
      d = depth_of k

      whole : Whole xs
      whole = picked-whole st leaf (λ i. length-leaf _) (count b)

      sized : length xs ≡ k
      sized = picked-length st leaf (count b) ∙ sym put.many

      xs-are : xs ≡ leaves b m
      xs-are = picked_same st (answered_at b m) leaf (count b) same

      deep : d ≡ depth_in b m
      deep = ap depth_of is

      root_is : node_in r2 (nodes_of d - 1) ≡ root_in b m
      root_is =
          left-root xs k whole sized some few rows r r2 put.puts served.laid space
          ∙ ap₂ (λ (l : List (List ℕ)) (e : ℕ). root_of l e) xs-are deep

      place_is : (i : ℕ) → i < count b → how_many st i ≡ place_of b m i
      place_is i h = many-same st (answered_at b m) i (λ j g. same j (omega arith))

      below : (i : ℕ) → i < count b → answered_at b m i ≡ true → how_many st i < k
      below i h t = omega (arith, put.many, many_below st i (same i h ∙ t) (count b) h)

      path-is : (i : ℕ) → i < count b → answered_at b m i ≡ true
          → flat (path_in r2 d (how_many st i)) ≡ flat (path_of (leaves b m) (depth_in b m) (place_of b m i))
      path-is i h t =
          ap flat
          (left-path xs k whole sized some few rows r r2 put.puts served.laid space (how_many st i) (below i h t)
          ∙ ap₂ (λ (l : List (List ℕ)) (e : ℕ). path_of l e (how_many st i)) xs-are deep
          ∙ ap (path_of (leaves b m) (depth_in b m)) (place_is i h))

      answer-is : (i : ℕ) → i < count b → answered_at b m i ≡ true
          → answers_in b.packets b.slot b.lengths marks m r2 d (said_of r2 d seed midp radi) cert i
          ≡ answer_at b m midp radi cert signature i
      unfolding answer_in answer_at
      answer-is i h t =
          reply-same (packet_at b i) midp radi cert (place_is i h) root_is (path-is i h t)
          (ap (λ (l : List ℕ). signature_over seed l midp radi) root_is)

      answer-long : (i : ℕ) → i < count b → answered_at b m i ≡ true
          → length (answer_at b m midp radi cert signature i) ≡ 264 + 32 * d + length cert
      unfolding answer_at
      answer-long i h t =
          let good = (meant-parts b i (answered-meant b m i t)).1 in
          let path = left-length xs k whole sized some few rows r r2 put.puts served.laid space
          (how_many st i) (below i h t) in
          let read = left-path xs k whole sized some few rows r r2 put.puts served.laid space (how_many st i)
          (below i h t) in
          let bytes : length (flat (path_of (leaves b m) (depth_in b m) (place_of b m i))) ≡ 32 * d =
          ap length (sym (path-is i h t)) ∙ ap (λ (l : List (List ℕ)). length (flat l)) read ∙ path in
          let a = reply (packet_at b i) (place_of b m i) (root_in b m)
          (flat (path_of (leaves b m) (depth_in b m) (place_of b m i)))
          midp radi cert signature in
          length-response a (record {
            nonce-long = (lent-body (packet_at b i) refl good).1.nonc-long;
            root-long = ap length (sym root_is) ∙ served.whole.root;
            signature-long =
                ap (λ (l : List ℕ). length (signature_over seed l midp radi)) (sym root_is) ∙ served.whole.signature;
          })
          ∙ omega (arith, bytes)

      rows_are : r2 ≡ rows_left b m rows
      unfolding rows_left
      rows_are =
          left-rows xs k whole sized some few rows r r2 put.puts served.laid space
          ∙ ap (λ (l : List (List ℕ)). written 0 (rows_bytes (flat l)) rows) xs-are
          ∙ sym (simp (ne_eqb (answers b m) 0 (λ z. omega (arith, z, is, some))))

      out-are : out2 ≡ out_left b m cert signature midp radi room out
      unfolding out_left
      out-are =
          served.answered ∙ out-same st (answered_at b m) _ _ room out (count b) same answer-is

      pub ended_some : {size : ℕ} {lengths : List ℕ} → size ≡ 264 + 32 * d + length cert
          → lengths ≡ fronted (upto (length_in marks b.lengths m size) (count b)) marks
          → Left b m cert seed midp radi room rows out o r2 out2 lengths k
      unfolding length_in
      ended_some {size} q e =
          record {
            many = is;
            of-rows = rows_are;
            of-out = out-are;
            of-lengths = e
                ∙ ended-lengths _ (λ i h.
                ap (λ (t : Bool). cond t size 0) (same i h)
                ∙ told-size (answered_at b m i) (λ t. q ∙ sym (answer-long i h t)));
          }
        where
          told-size : {x y : ℕ} (t : Bool) → (t ≡ true → x ≡ y) → cond t x 0 ≡ cond t y 0
          told-size true s = s refl
          told-size false s = refl
