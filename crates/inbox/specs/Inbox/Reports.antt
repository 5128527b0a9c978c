-- What Phase2a asks of the inbox, gathered message by message, and that this is what Inbox.antt says.
--     no_reports, report_step   before the first message, and one message further
--     Gathers                   what was gathered and what is ahead make up what all messages say
--     gathers_start, _next, _end     before the first message, one message further, and none left
--     reports_bad_plan, reports_plan     the answer, from what was gathered
-- Assumes nothing.
use Rattle.std.specs.Prelude.{ℕ, ◌<◌, ◌≤◌, Bool, ◌&&◌, ◌||◌, cond, List, [], ◌∷◌, ◌≡◌, ltb, length, None, Option, Some}
use Rattle.std.proofs.Math.Bool.{true, false, or-true, or-false, or_assoc}
use Rattle.std.proofs.Math.Path.{refl, sym, ap}
use Rattle.std.proofs.Common.{◌∙◌, arith, lt-ltb, le-ltb, ltb-true, ltb-false}
use Rattle.std.proofs.Math.Dec.{eqb}
use Rattle.message.specs.declared.Plan.{Plan}
use Rattle.message.specs.declared.Vote.{Vote}
use Rattle.message.specs.declared.Message.{Message}
use Rattle.message.specs.declared.Message.TheVariants.{Phase1a, Phase1b, Phase2a, Phase2b, Decision}
use Rattle.message.specs.Plan.{is_plan}
use Rattle.message.proofs.PlanLaws.{plan_bounds}
use Rattle.quorum.specs.Quorum.{is_majority, is_quorum}
use Rattle.quorum.proofs.Quorum.Laws.{quorum_ext}
use Rattle.quorum.specs.Mask.{has_bit, join, ones}
use Rattle.quorum.proofs.Mask.Laws.{has_bit_zero, join_bit, mask_quorum}
use Rattle.inbox.specs.declared.Gathered.{Gathered}
use Rattle.inbox.specs.declared.Reports.{Reports}
use Rattle.inbox.specs.Inbox.{any, is1b, is2a, higher, report_of, highest_report, reports_of}

-- before the first message
abbrev pub no_reports : Gathered
no_reports = record { proposed = false; mask = 0; vote = None }

-- a 1b of (i, b): its acceptor joins, and its report is compared; a 2a of (i, b) is noted
unfoldable pub report_step : ℕ → ℕ → Gathered → Message → Gathered
report_step i b g (Phase1a _ _) = g
report_step i b g (Phase1b ins acc mbal vote) =
    cond (eqb ins i && eqb mbal b) (record { proposed = g.proposed; mask = join g.mask acc; vote = higher g.vote vote }) g
report_step i b g (Phase2a ins bal val) = cond (eqb ins i && eqb bal b) (record { proposed = true; mask = g.mask; vote = g.vote }) g
report_step i b g (Phase2b _ _ _ _) = g
report_step i b g (Decision _) = g

pub higher_none : (v : Option Vote) → higher v None ≡ v
unfolding higher
higher_none None = refl
higher_none (Some v) = refl

higher_assoc : (u v w : Option Vote) → higher (higher u v) w ≡ higher u (higher v w)
unfolding higher
higher_assoc None v w = refl
higher_assoc (Some x) None w = refl
higher_assoc (Some x) (Some y) None = higher_none (cond (ltb x.bal y.bal) (Some y) (Some x))
higher_assoc (Some x) (Some y) (Some z) = go (ltb x.bal y.bal) refl (ltb y.bal z.bal) refl
  where
    go : (s : Bool) → ltb x.bal y.bal ≡ s → (t : Bool) → ltb y.bal z.bal ≡ t
        → higher (cond s (Some y) (Some x)) (Some z) ≡ higher (Some x) (cond t (Some z) (Some y))
    go true s true t =
        let l : x.bal < y.bal = ltb-true x.bal y.bal s in
        let m : y.bal < z.bal = ltb-true y.bal z.bal t in
        rw (t, lt-ltb x.bal z.bal (omega arith))
    go true s false t = rw (t, s)
    go false s true t = refl
    go false s false t =
        let l : y.bal ≤ x.bal = ltb-false x.bal y.bal s in
        let m : z.bal ≤ y.bal = ltb-false y.bal z.bal t in
        rw (s, le-ltb x.bal z.bal (omega arith))

-- one message
module _ (i b : ℕ) (g : Gathered) where
  step_proposed : (m : Message) → (report_step i b g m).proposed ≡ (g.proposed || is2a i b m)
  unfolding report_step is2a
  step_proposed (Phase1a ins bal) = sym (or-false _)
  step_proposed (Phase1b ins acc mbal vote) = go (eqb ins i && eqb mbal b)
    where
      go : (t : Bool) → (cond t (record { proposed = g.proposed; mask = join g.mask acc; vote = higher g.vote vote }) g).proposed
          ≡ (g.proposed || false)
      go true = sym (or-false _)
      go false = sym (or-false _)
  step_proposed (Phase2a ins bal val) = go (eqb ins i && eqb bal b)
    where
      go : (t : Bool) → (cond t (record { proposed = true; mask = g.mask; vote = g.vote }) g).proposed ≡ (g.proposed || t)
      go true = sym (or-true g.proposed)
      go false = sym (or-false g.proposed)
  step_proposed (Phase2b ins acc bal val) = sym (or-false _)
  step_proposed (Decision val) = sym (or-false _)

  step_bit : (m : Message) (a : ℕ) → a < 8 → has_bit (report_step i b g m).mask a ≡ (has_bit g.mask a || is1b i b a m)
  unfolding report_step is1b
  step_bit (Phase1a ins bal) a h = sym (or-false _)
  step_bit (Phase1b ins acc mbal vote) a h = go (eqb ins i) (eqb mbal b)
    where
      go : (s t : Bool) → has_bit (cond (s && t) (record { proposed = g.proposed; mask = join g.mask acc; vote = higher g.vote vote }) g).mask a
          ≡ (has_bit g.mask a || (s && (t && eqb acc a)))
      go true true = join_bit g.mask acc a h
      go true false = sym (or-false _)
      go false t = sym (or-false _)
  step_bit (Phase2a ins bal val) a h = go (eqb ins i && eqb bal b)
    where
      go : (t : Bool) → has_bit (cond t (record { proposed = true; mask = g.mask; vote = g.vote }) g).mask a ≡ (has_bit g.mask a || false)
      go true = sym (or-false _)
      go false = sym (or-false _)
  step_bit (Phase2b ins acc bal val) a h = sym (or-false _)
  step_bit (Decision val) a h = sym (or-false _)

  step_vote : (m : Message) → (report_step i b g m).vote ≡ higher g.vote (report_of i b m)
  unfolding report_step report_of
  step_vote (Phase1a ins bal) = sym (higher_none _)
  step_vote (Phase1b ins acc mbal vote) = go (eqb ins i && eqb mbal b)
    where
      go : (t : Bool) → (cond t (record { proposed = g.proposed; mask = join g.mask acc; vote = higher g.vote vote }) g).vote
          ≡ higher g.vote (cond t vote None)
      go true = refl
      go false = sym (higher_none _)
  step_vote (Phase2a ins bal val) = go (eqb ins i && eqb bal b)
    where
      go : (t : Bool) → (cond t (record { proposed = true; mask = g.mask; vote = g.vote }) g).vote ≡ higher g.vote None
      go true = sym (higher_none _)
      go false = sym (higher_none _)
  step_vote (Phase2b ins acc bal val) = sym (higher_none _)
  step_vote (Decision val) = sym (higher_none _)

-- one test further: `y` is the next message's
pub or_next : (all x y z : Bool) → all ≡ (x || (y || z)) → (next : Bool) → next ≡ (x || y) → all ≡ (next || z)
or_next all x y z e next k = e ∙ sym (or_assoc x y z) ∙ ap (λ (t : Bool). t || z) (sym k)

-- what was gathered and what is ahead make up what all messages say
pub record Gathers (i b : ℕ) (ms : List Message) (g : Gathered) (rest : List Message) : Type 0 where
  pub proposed : any (is2a i b) ms ≡ (g.proposed || any (is2a i b) rest)
  pub member : (a : ℕ) → a < 8 → any (is1b i b a) ms ≡ (has_bit g.mask a || any (is1b i b a) rest)
  pub vote : highest_report i b ms ≡ higher g.vote (highest_report i b rest)

module _ (i b : ℕ) (ms : List Message) where
  pub gathers_start : Gathers i b ms no_reports ms
  unfolding higher
  gathers_start =
      record {
        proposed = refl;
        member = λ a h. sym (ap (λ (t : Bool). t || any (is1b i b a) ms) (has_bit_zero a));
        vote = refl;
      }

  module _ (g : Gathered) (here : List Message) (inv : Gathers i b ms g here) where
    pub gathers_next : (m : Message) (rest : List Message) → here ≡ m ∷ rest → (g' : Gathered) → g' ≡ report_step i b g m
        → Gathers i b ms g' rest
    unfolding any highest_report
    gathers_next m rest e g' k =
        let inv' : Gathers i b ms g (m ∷ rest) = rw e at inv in
        rw k
        (record {
          proposed = or_next _ g.proposed (is2a i b m) (any (is2a i b) rest) inv'.proposed _ (step_proposed i b g m);
          member = λ a h. or_next _ (has_bit g.mask a) (is1b i b a m) (any (is1b i b a) rest) (inv'.member a h) _ (step_bit i b g m a h);
          vote = inv'.vote ∙ sym (higher_assoc _ _ _) ∙ ap (λ (u : Option Vote). higher u (highest_report i b rest)) (sym (step_vote i b g m));
        })

    pub gathers_end : here ≡ [] → Gathers i b ms g []
    gathers_end e = rw e at inv

  -- all messages gathered
  module _ (g : Gathered) (inv : Gathers i b ms g []) (count : ℕ) (all-count : count ≡ length ms) where
    all_proposed : g.proposed ≡ any (is2a i b) ms
    unfolding any
    all_proposed = sym (inv.proposed ∙ or-false _)

    all_quorum : (total : ℕ) → total ≤ 7 → is_majority total (ones total g.mask) ≡ is_quorum total (λ a. any (is1b i b a) ms)
    unfolding any
    all_quorum total h = mask_quorum total g.mask ∙ quorum_ext total _ _ (λ a k. sym (inv.member a (omega arith) ∙ or-false _))

    all_vote : g.vote ≡ highest_report i b ms
    unfolding highest_report
    all_vote = sym (inv.vote ∙ higher_none _)

    pub reports_bad_plan : (p : Plan) → is_plan p ≡ false
        → ◌≡◌ {A = Reports} (record { proposed = g.proposed; quorum = false; vote = g.vote; count = count }) (reports_of p ms i b)
    reports_bad_plan p h = rw h (λ j. record { proposed = all_proposed j; quorum = false; vote = all_vote j; count = all-count j })

    pub reports_plan : (p : Plan) → is_plan p ≡ true → (q : Bool) → q ≡ is_majority p.acceptors (ones p.acceptors g.mask)
        → ◌≡◌ {A = Reports} (record { proposed = g.proposed; quorum = q; vote = g.vote; count = count }) (reports_of p ms i b)
    reports_plan p h q e =
        let majority = e ∙ all_quorum p.acceptors (plan_bounds p h).acceptors_most in
        rw h (λ j. record { proposed = all_proposed j; quorum = majority j; vote = all_vote j; count = all-count j })
