-- Laws of the hash value after block upon block.
use Rattle.std.proofs.Common.{◌≡◌, ℕ, zero, suc, ◌+◌, ◌-◌, ◌*◌, ◌/◌, ◌%◌, ◌≤◌, ◌<◌, List, get_or, add-one, ◌++◌, length, take, drop, sym, refl, ap, ◌∙◌, ap₂, append_assoc, add-zero, add-suc, arith, length-append, length-drop, take-append-drop, length-take-le, take_all}
use lib.Seq.{drop-drop, drop-append-le, take-append-le, drop-append-add}
use Rattle.std.specs.Simd.{first_chunks}
use Rattle.laws.proofs.Chunks.{chunk_at}
use Rattle.sha512_block.specs.HashValue.{next_hash, compress, hash_after, hashed}
use Rattle.sha512_block.specs.Parsing.{block}

-- ---- whole blocks, and then what stands behind them

-- the first n blocks alone decide the hash value after them
after_front : (h p q : List ℕ) (n : ℕ) → 128 * n ≤ length p → hash_after h (p ++ q) n ≡ hash_after h p n
unfolding hash_after
after_front h p q zero l = refl
after_front h p q (suc n) l =
    let here : 128 * n ≤ length p = omega arith in
    let enough : 128 ≤ length (drop (128 * n) p) = simp length-drop (omega arith) in
    ap₂ compress (after_front h p q n here)
    (ap (take 128) (drop-append-le (128 * n) p q here) ∙ take-append-le 128 (drop (128 * n) p) q enough)

-- n blocks, and then k more
after-split : (h p q : List ℕ) (n k : ℕ) → length p ≡ 128 * n
    → hash_after h (p ++ q) (n + k) ≡ hash_after (hash_after h p n) q k
unfolding hash_after
after-split h p q n zero e = rw add-zero (after_front h p q n (omega arith))
after-split h p q n (suc k) e =
    let there : 128 * (n + k) ≡ length p + 128 * k = omega arith in
    rw (add-suc, there) (ap₂ compress (after-split h p q n k e) (ap (take 128) (drop-append-add p q (128 * k))))

-- p is n whole blocks: the hash value after p and q is that after q, from that after p on
pub hashed-split : (h p q : List ℕ) (n : ℕ) → length p ≡ 128 * n → hashed h (p ++ q) ≡ hashed (hashed h p) q
unfolding hashed
hashed-split h p q n e =
    let first : length p / 128 ≡ n = omega arith in
    let all : length (p ++ q) / 128 ≡ n + length q / 128 = simp length-append (omega arith) in
    rw (all, first) (after-split h p q n (length q / 128) e)

-- The whole blocks of s end at a, and t is what stands behind them.
-- To work in those blocks, and then t and z, is to work in s and z.
pub hashed-rest : (h s z t : List ℕ) (a : ℕ) → a ≡ length s - length s % 128 → t ≡ take (length s - a) (drop a s)
    → hashed (hashed h s) (t ++ z) ≡ hashed h (s ++ z)
unfolding hashed
hashed-rest h s z t a a-is t-is =
    let n : ℕ = length s / 128 in
    let p : List ℕ = take a s in
    let q : List ℕ = drop a s in
    let pl : length p ≡ 128 * n = length-take-le a s (omega arith) ∙ (omega arith) in
    let pn : length p / 128 ≡ n = omega arith in
    let ql : length q ≡ length s - a = length-drop a s in
    let tq : t ≡ q = t-is ∙ take_all (length s - a) q (omega arith) in
    let joined : p ++ q ≡ s = take-append-drop a s in
    let first : hashed h s ≡ hashed h p =
    (ap (λ (l : List ℕ). hash_after h l n) (sym joined)
    ∙ after_front h p q n (omega arith)
    ∙ ap (hash_after h p) (sym pn)) in
    ap₂ (λ (x y : List ℕ). hashed x (y ++ z)) first tq
    ∙ sym (hashed-split h p (q ++ z) n pl)
    ∙ ap (hashed h) (sym (append_assoc p q z) ∙ ap (λ (l : List ℕ). l ++ z) joined)

-- less than a block changes nothing
pub hashed-short : (h s : List ℕ) → length s / 128 ≡ 0 → h ≡ hashed h s
unfolding hashed hash_after
hashed-short h s e = ap (hash_after h s) (sym e)

-- no block does
pub hash_none : (h s : List ℕ) → hash_after h s 0 ≡ h
unfolding hash_after
hash_none h s = refl

-- one block more, where code has the blocks as bs
pub hash_more : (h m x y : List ℕ) (bs : List (List ℕ)) (n i : ℕ) (d : List ℕ) → bs ≡ first_chunks 128 n m → i < n
    → x ≡ hash_after h m i → y ≡ compress x (get_or bs i d) → y ≡ hash_after h m (i + 1)
unfolding hash_after
hash_more h m x y bs n i d b l e f =
    f ∙ ap₂ compress e (ap (λ l. get_or l i d) b ∙ chunk_at 128 n m i d l) ∙ rw add-one refl

-- ---- the hash value has eight words

compress-long : (h b : List ℕ) → length (compress h b) ≡ 8
unfolding compress next_hash
compress-long h b = refl

after-long : (h m : List ℕ) (n : ℕ) → length h ≡ 8 → length (hash_after h m n) ≡ 8
unfolding hash_after
after-long h m zero e = e
after-long h m (suc n) e = compress-long (hash_after h m n) (block m n)

pub hashed-long : (h m : List ℕ) → length h ≡ 8 → length (hashed h m) ≡ 8
unfolding hashed
hashed-long h m e = after-long h m (length m / 128) e
