-- Which numbers a list call answers, and which it writes.
--     run_number            one of the rows of the call
--     sound_number          on a sound record an event is refused with 7 to 14
--     written_number        so what a list call writes is 0 or one of these
-- Assumes nothing.
use Rattle.std.specs.Prelude.{ℕ, ◌≤◌, ◌⊎◌, ◌≡◌, refl}
use mathlib.Core.List.Memᴰ
use mathlib.Core.List.{List, [], ◌∷◌, Memᴰ}
use Rattle.std.proofs.Common.{inl, inr, arith}
use Rattle.message.specs.declared.Plan.{Plan}
use Rattle.message.specs.Outcome.{Outcome, accepted, refused}
use Rattle.message.specs.Rows.{here, below, Applies}
use Rattle.message.proofs.Rows.Laws.{applies_of_first}
use Rattle.change.specs.declared.Sent.{Sent}
use Rattle.record.specs.Record.{Tables, lent_judged, record_step}
use Rattle.conformance.specs.Record.{record_rows}
use Rattle.conformance.proofs.Theorems.{judge_answers, record_answers, record_sound}
use Rattle.batch.specs.Rows.{run_rows}
use Rattle.batch.specs.Run.{single_calls, numbers_of}

pub run_number : (p : Plan) (t : Tables) (events answers : List ℕ) (k : ℕ) → Applies (run_rows p t events answers) k → ((1 ≤ k) × (k ≤ 6)) ⊎ ((k ≡ 19) ⊎ (k ≡ 20))
run_number p t events answers k (here (e, h)) = inl (omega (arith, e), omega (arith, e))
run_number p t events answers k (below (here (e, h))) = inl (omega (arith, e), omega (arith, e))
run_number p t events answers k (below (below (here (e, h)))) = inl (omega (arith, e), omega (arith, e))
run_number p t events answers k (below (below (below (here (e, h))))) = inl (omega (arith, e), omega (arith, e))
run_number p t events answers k (below (below (below (below (here (e, h)))))) = inl (omega (arith, e), omega (arith, e))
run_number p t events answers k (below (below (below (below (below (here (e, h))))))) = inl (omega (arith, e), omega (arith, e))
run_number p t events answers k (below (below (below (below (below (below (here (e, h)))))))) = inr (inl e)
run_number p t events answers k (below (below (below (below (below (below (below (here (e, h))))))))) = inr (inr e)
run_number p t events answers k (below (below (below (below (below (below (below (below h)))))))) = absurd (h tt)

-- no row of the tables applies to a sound record
module _ (p : Plan) (t : Tables) (ok : lent_judged p t ≡ accepted tt) (e : List ℕ) where
  event_number : (k : ℕ) → Applies (record_rows p t e) k → (7 ≤ k) × (k ≤ 14)
  event_number k (here h) = absurd ((judge_answers p t).accepts.0 (tt, ok) k (here h))
  event_number k (below (here h)) = absurd ((judge_answers p t).accepts.0 (tt, ok) k (below (here h)))
  event_number k (below (below (here h))) = absurd ((judge_answers p t).accepts.0 (tt, ok) k (below (below (here h))))
  event_number k (below (below (below (here h)))) = absurd ((judge_answers p t).accepts.0 (tt, ok) k (below (below (below (here h)))))
  event_number k (below (below (below (below (here h))))) = absurd ((judge_answers p t).accepts.0 (tt, ok) k (below (below (below (below (here h))))))
  event_number k (below (below (below (below (below (here h)))))) = absurd ((judge_answers p t).accepts.0 (tt, ok) k (below (below (below (below (below (here h)))))))
  event_number k (below (below (below (below (below (below (here h))))))) = absurd ((judge_answers p t).accepts.0 (tt, ok) k (below (below (below (below (below (below (here h))))))))
  event_number k (below (below (below (below (below (below (below (here h)))))))) = (omega (arith, h.0), omega (arith, h.0))
  event_number k (below (below (below (below (below (below (below (below (here h))))))))) = (omega (arith, h.0), omega (arith, h.0))
  event_number k (below (below (below (below (below (below (below (below (below (here h)))))))))) = (omega (arith, h.0), omega (arith, h.0))
  event_number k (below (below (below (below (below (below (below (below (below (below (here h))))))))))) = (omega (arith, h.0), omega (arith, h.0))
  event_number k (below (below (below (below (below (below (below (below (below (below (below (here h)))))))))))) = (omega (arith, h.0), omega (arith, h.0))
  event_number k (below (below (below (below (below (below (below (below (below (below (below (below (here h))))))))))))) = (omega (arith, h.0), omega (arith, h.0))
  event_number k (below (below (below (below (below (below (below (below (below (below (below (below (below (here h)))))))))))))) = (omega (arith, h.0), omega (arith, h.0))
  event_number k (below (below (below (below (below (below (below (below (below (below (below (below (below (below (here h))))))))))))))) = (omega (arith, h.0), omega (arith, h.0))
  event_number k (below (below (below (below (below (below (below (below (below (below (below (below (below (below (below h))))))))))))))) = absurd (h tt)

  pub sound_number : (k : ℕ) → (record_step p t e).answer ≡ refused k → (7 ≤ k) × (k ≤ 14)
  sound_number k is = event_number k (applies_of_first (record_rows p t e) k (((record_answers p t e).refuses k).0 is))

pub written_number : (p : Plan) (t : Tables) → lent_judged p t ≡ accepted tt → (es : List (List ℕ)) (k : ℕ) → Memᴰ k (numbers_of (single_calls p t es))
    → (k ≡ 0) ⊎ ((7 ≤ k) × (k ≤ 14))
written_number p t ok [] k h = absurd (Memᴰ.not-nil h)
written_number p t ok (e ∷ es) k (Memᴰ.head same) = go (record_step p t e).answer refl
  where
    go : (o : Outcome Sent) → (record_step p t e).answer ≡ o → (k ≡ 0) ⊎ ((7 ≤ k) × (k ≤ 14))
    go (accepted sent) is = inl (rw is at same)
    go (refused j) is = inr (rw (rw is at same) (sound_number p t ok e j is))
written_number p t ok (e ∷ es) k (Memᴰ.tail h) = written_number p (record_step p t e).tables (record_sound p t e ok) es k h
