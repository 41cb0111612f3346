-- FIPS 180-4, section 6.4.2, steps 2 and 3: the working variables a to h, and the rounds on them.
use Rattle.std.specs.Prelude.{ℕ, zero, suc, List, slice_index}
use Rattle.sha512_block.specs.declared.Regs.{Regs}
use Rattle.sha512_block.specs.Constants.{K}
use Rattle.sha512_block.specs.Words.{add64, ch, maj, Σ0, Σ1}

-- step 2: the working variables start as the hash value h
unfoldable pub working_variables : List ℕ → Regs
working_variables h =
    record {
      a = slice_index h 0;
      b = slice_index h 1;
      c = slice_index h 2;
      d = slice_index h 3;
      e = slice_index h 4;
      f = slice_index h 5;
      g = slice_index h 6;
      h = slice_index h 7;
    }

-- step 3: T1 = h + Σ1 (e) + Ch (e, f, g) + K t + W t
unfoldable pub T1 : ℕ → ℕ → Regs → ℕ
T1 k w s = add64 (add64 (add64 (add64 s.h (Σ1 s.e)) (ch s.e s.f s.g)) k) w

-- T2 = Σ0 (a) + Maj (a, b, c)
unfoldable pub T2 : Regs → ℕ
T2 s = add64 (Σ0 s.a) (maj s.a s.b s.c)

-- one round, with the constant k and the schedule's word w
unfoldable pub round : ℕ → ℕ → Regs → Regs
round k w s =
    record {
      a = add64 (T1 k w s) (T2 s);
      b = s.a;
      c = s.b;
      d = s.c;
      e = add64 s.d (T1 k w s);
      f = s.e;
      g = s.f;
      h = s.g;
    }

-- the first t rounds over the schedule w
unfoldable pub rounds : List ℕ → Regs → ℕ → Regs
rounds w s zero = s
rounds w s (suc t) = round (slice_index K t) (slice_index w t) (rounds w s t)
