-- An acceptor's own call on its own host.
--     entry_set             the entries of all acceptors, when one acceptor has a new one
--     acceptor_claim        an accepted call keeps what is claimed
--     acceptor_not_11       11 is no number of this call
-- Assumes nothing.
use Rattle.std.specs.Prelude.{ℕ, ◌≤◌, Bool, true, false, ◌&&◌, cond, List, [], ◌∷◌, ◌⊎◌, ◌↔◌, ◌≡◌, refl, eqb, length}
use Rattle.std.proofs.Common.{inl, inr, ⊎_elim, ◌∙◌, ap, subst, eqb-true, eq-eqb}
use Rattle.std.proofs.Math.Path.{fun_ext}
use Rattle.message.specs.declared.Plan.{Plan}
use Rattle.message.specs.declared.Message as Wire
use Rattle.message.specs.declared.Message.TheVariants.{Phase1a, Phase1b, Phase2a, Phase2b, Decision}
use Rattle.message.specs.Outcome.{refused}
use Rattle.message.specs.Rows.{here, Lowest}
use Rattle.message.proofs.Rows.Named.{row_applies, applies_row}
use Rattle.slots.specs.Table.{messages}
use Rattle.event.specs.Event.{who_of, slot_number}
use Rattle.tcommit.specs.TCommit.{except}
use Rattle.paxos_commit.specs.PaxosCommit.{Message, AState, except₂}
use Rattle.acceptor.specs.Acceptor.{acceptor_step}
use Rattle.matching.specs.Reading.{is_acceptor, val_of, message_of, set_of, a_state_of}
use Rattle.matching.specs.Call.{Accepted}
use Rattle.matching.proofs.Call.Laws.{message_at_cases, unused_past, member_at}
use Rattle.matching.specs.Acceptor.{Phase1bAction, Phase2bAction, report_of, is_taken, InSlot, state_of, acceptor_rows}
use Rattle.matching.proofs.Acceptor.Votes.{report_is}
use Rattle.matching.proofs.Theorems.{acceptor_answers, acceptor_member, acceptor_phase1b, acceptor_phase2b}
use Rattle.safety.proofs.Grounds.Kept.{unowned_other}
use Rattle.apart.specs.Hosts.{acceptor, Host, System, Left, called, after, sent_by, row, published}
use Rattle.apart.proofs.Hosts.Tied.{Grounded, Claim, claim_sends, wire_adds}

pub entry_set : (p : Plan) (acceptors : ℕ → Host) (ins k : ℕ) (v : AState) (h : Host)
    → a_state_of p h.table ≡ except₂ (a_state_of p (acceptors k).table) ins k v
    → (λ (i a : ℕ). a_state_of p (except acceptors k h a).table i a) ≡ except₂ (λ (i a : ℕ). a_state_of p (acceptors a).table i a) ins k v
entry_set p acceptors ins k v h is = fun_ext (λ (i : ℕ). fun_ext (λ (a : ℕ). go i a (eqb i ins) (eqb a k) refl refl))
  where
    here_is : (i : ℕ) (b : Bool) → eqb i ins ≡ b → a_state_of p h.table i k ≡ cond (b && true) v (a_state_of p (acceptors k).table i k)
    here_is i b e = ap (λ (f : ℕ → ℕ → AState). f i k) is ∙ rw (e, eq-eqb k k refl) refl

    go : (i a : ℕ) (b c : Bool) → eqb i ins ≡ b → eqb a k ≡ c
        → a_state_of p (cond c h (acceptors a)).table i a ≡ cond (b && c) v (a_state_of p (acceptors a).table i a)
    go i a b true d e = rw (eqb-true a k e) (here_is i b d)
    go i a true false d e = refl
    go i a false false d e = refl

pub acceptor_not_11 : (p : Plan) (votes network e : List ℕ) (rm_state : ℕ → ℕ) → (acceptor_step p votes network e).answer ≡ refused 11 → ⊥
acceptor_not_11 p votes network e rm_state is =
    row_applies (acceptor_rows p votes network e (state_of p votes network rm_state)) 11 (((acceptor_answers p votes network e rm_state).refuses 11).0 is).0 tt

module _ (p : Plan) (s : System) (g : Grounded p s) (e : List ℕ) where
  abbrev a : ℕ
  a = who_of e

  abbrev votes : List ℕ
  votes = (s.hosts acceptor a).table

  abbrev network : List ℕ
  network = (s.hosts acceptor a).network

  abbrev r : Left
  r = called p acceptor (s.hosts acceptor a) e

  rows : Lowest (acceptor_rows p votes network e (state_of p votes network (row s))) r.answer
  rows = acceptor_answers p votes network e (row s)

  module _ (taken : Accepted r.answer) where
    member : is_acceptor p a
    member = acceptor_member p votes network e taken

    sent_before : (m : Wire.Message) → InSlot p network e m → set_of s.wire (message_of m)
    sent_before m slot = (m, g.tied.networks acceptor a m (member_at _ _ m slot), refl)

    promises : (ins bal : ℕ) → InSlot p network e (Phase1a ins bal) → Claim p s acceptor a r (sent_by p r)
    promises ins bal slot =
        let ((there, low, is, joined, same), sent, table) = acceptor_phase1b p votes network e (row s) taken ins bal slot in
        let ok = g.inv.ranges _ (sent_before _ slot) in
        let m : Wire.Message = report_of p votes a ins bal in
        let acts : Phase1bAction p a ins bal (published p s) (published p (after s acceptor a r (m ∷ [])))
        = (
          sent_before _ slot,
          low,
          entry_set p (s.hosts acceptor) ins a _ _ is,
          subst (λ (y : Message). (x : Message) → set_of (m ∷ s.wire) x ↔ (set_of s.wire x ⊎ (x ≡ y))) (report_is p votes ins a ok.0 member bal) (wire_adds s.wire m),
          refl,
        ) in
        claim_sends p s g.tied acceptor a r m sent (λ l. refl) (λ l i v h. h) (unowned_other p _ refl) (inl (inr (inr (inr (a, member, inl (ins, bal, acts))))))

    votes_for : (ins bal val : ℕ) → InSlot p network e (Phase2a ins bal val) → Claim p s acceptor a r (sent_by p r)
    votes_for ins bal val slot =
        let ((there, low, is, joined, same), sent, table) = acceptor_phase2b p votes network e (row s) taken ins bal val slot in
        let m : Wire.Message = Phase2b ins a bal val in
        let acts : Phase2bAction p a ins bal (val_of val) (published p s) (published p (after s acceptor a r (m ∷ [])))
        = (sent_before _ slot, low, entry_set p (s.hosts acceptor) ins a _ _ is, wire_adds s.wire m, refl) in
        claim_sends p s g.tied acceptor a r m sent (λ l. refl) (λ l i v h. h) (unowned_other p _ refl)
        (inl (inr (inr (inr (a, member, inr (ins, bal, val_of val, acts))))))

    -- row 8: the slot is used
    used : length (messages p network) ≤ slot_number e → ⊥
    used unused = rows.accepts.0 taken 8 (applies_row (acceptor_rows p votes network e (state_of p votes network (row s))) 8 (here (unused, tt)))

    -- row 9: by a 1a or a 2a
    other : (m : Wire.Message) → InSlot p network e m → is_taken m ≡ false → ⊥
    other m slot untaken = rows.accepts.0 taken 9 (applies_row (acceptor_rows p votes network e (state_of p votes network (row s))) 9 (here ((m, slot, untaken), tt)))

    pub acceptor_claim : Claim p s acceptor a r (sent_by p r)
    acceptor_claim = ⊎_elim (λ none. absurd (used (unused_past (messages p network) (slot_number e) none))) (λ (m, slot). go m slot)
        (message_at_cases (messages p network) (slot_number e))
      where
        go : (m : Wire.Message) → InSlot p network e m → Claim p s acceptor a r (sent_by p r)
        go (Phase1a ins bal) slot = promises ins bal slot
        go (Phase1b ins acc mbal vote) slot = absurd (other _ slot refl)
        go (Phase2a ins bal val) slot = votes_for ins bal val slot
        go (Phase2b ins acc bal val) slot = absurd (other _ slot refl)
        go (Decision val) slot = absurd (other _ slot refl)
