-- What holds of settings that no check refuses: one fact for each check, and nothing else.
use Rattle.std.specs.Prelude.{ℕ, zero, suc, ◌≤◌, ◌+◌, Bool, true, false, ◌≡◌, refl, List, [], ◌∷◌, get_or}
use Rattle.std.proofs.Common.{arith, leb-false, ltb-false, le-ltb, ne_eqb}
use Rattle.std.proofs.lemmas.Bool.{eqb-false, lt-leb}
use Rattle.time.specs.Time.{end}
use Rattle.settings.specs.declared.Config.{Config}
use Rattle.settings.specs.Settings.{failing, first_at, place_of}
use Rattle.settings.specs.Accepted.{Accepted}

-- place 0: the test at each place fails
fails : (n : ℕ) (l : List Bool) → first_at (suc n) l ≡ 0 → (i : ℕ) → get_or l i false ≡ false
unfolding first_at
fails n [] e i = refl
fails n (true ∷ l) e i = absurd (omega arith)
fails n (false ∷ l) e zero = refl
fails n (false ∷ l) e (suc i) = fails (suc n) l e i

nothing : (n : ℕ) → first_at n [] ≡ 0
unfolding first_at
nothing n = refl

-- one more test that fails leaves place 0
passed : (n : ℕ) (b : Bool) (l : List Bool) → b ≡ false → first_at (suc n) l ≡ 0 → first_at n (b ∷ l) ≡ 0
unfolding first_at
passed n b l e h = rw e h

pos : (n : ℕ) → (n ≡ 0 → ⊥) → 1 ≤ n
pos n h = omega arith

unpos : (n : ℕ) → 1 ≤ n → n ≡ 0 → ⊥
unpos n h e = omega arith

-- place 0 gives every fact
pub accepted : (cfg : Config) → place_of cfg ≡ 0 → Accepted cfg
unfolding place_of failing
accepted cfg e =
    let h : (i : ℕ) → get_or (failing cfg) i false ≡ false = fails 0 (failing cfg) e in
    record {
      some-messages = pos _ (eqb-false _ _ (h 0));
      messages-by-soft = ltb-false _ _ (h 1);
      after-past-jitter = leb-false _ _ (h 2);
      after-past-floor = ltb-false _ _ (h 3);
      after_in_range = ltb-false _ _ (h 4);
      some-check = pos _ (eqb-false _ _ (h 5));
      some-hold = pos _ (eqb-false _ _ (h 6));
      some-revert = pos _ (eqb-false _ _ (h 7));
      some-ttl = pos _ (eqb-false _ _ (h 8));
      some-silence = pos _ (eqb-false _ _ (h 9));
      handshake-room = ltb-false _ _ (h 10);
      drain-room = leb-false _ _ (h 11);
      retention-room = ltb-false _ _ (h 12);
      hold-room = leb-false _ _ (h 13);
      soft-below-hard = leb-false _ _ (h 14);
    }

-- and every fact gives place 0
pub accepting : (cfg : Config) → Accepted cfg → place_of cfg ≡ 0
unfolding place_of failing
accepting cfg a =
    passed _ _ _ (ne_eqb _ _ (unpos _ a.some-messages))
    (passed _ _ _ (le-ltb _ _ a.messages-by-soft)
    (passed _ _ _ (lt-leb _ _ a.after-past-jitter)
    (passed _ _ _ (le-ltb _ _ a.after-past-floor)
    (passed _ _ _ (le-ltb _ _ a.after_in_range)
    (passed _ _ _ (ne_eqb _ _ (unpos _ a.some-check))
    (passed _ _ _ (ne_eqb _ _ (unpos _ a.some-hold))
    (passed _ _ _ (ne_eqb _ _ (unpos _ a.some-revert))
    (passed _ _ _ (ne_eqb _ _ (unpos _ a.some-ttl))
    (passed _ _ _ (ne_eqb _ _ (unpos _ a.some-silence))
    (passed _ _ _ (le-ltb _ _ a.handshake-room)
    (passed _ _ _ (lt-leb _ _ a.drain-room)
    (passed _ _ _ (le-ltb _ _ a.retention-room)
    (passed _ _ _ (lt-leb _ _ a.hold-room)
    (passed _ _ _ (lt-leb _ _ a.soft-below-hard)
    (nothing _)))))))))))))))

-- so the confirmation window, handshake plus one check, fits 64 bits with the hold
pub confirm-fits : (cfg : Config) → place_of cfg ≡ 0 → cfg.hold ≤ end → cfg.handshake + cfg.check ≤ end
confirm-fits cfg e h = omega (arith, (accepted cfg e).hold-room)
