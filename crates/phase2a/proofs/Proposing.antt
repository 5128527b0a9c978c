-- From what one pass over the inbox gathered to the cases of `phase2a_message`.
--     proposed_is, quorum_is, proposal_is, count_is     a 2a is there, the acceptors with a 1b are a majority, the value of the highest report,
--                                                       how many messages there are
-- Assumes nothing.
use Prim.Native.Nat.{ℕ}
use mathlib.Core.Bool.{true}
use mathlib.Core.List.{List}
use mathlib.Core.Path.{◌≡◌, ◌∙◌, ap}
use lib.ListN.{length}
use Rattle.message.specs.declared.Plan.{Plan}
use Rattle.message.specs.declared.Message.{Message}
use Rattle.message.specs.declared.Message.TheVariants.{Phase2a}
use Rattle.message.specs.Outcome.{accepted}
use Rattle.message.specs.Plan.{is_plan}
use Rattle.quorum.specs.Quorum.{is_quorum}
use Rattle.inbox.specs.declared.Reports.{Reports}
use Rattle.inbox.specs.Inbox.{any, is1b, is2a, highest_report, proposal, reports_of}

module _ (p : Plan) (ms : List Message) (i b : ℕ) (r : Reports) (of-r : r ≡ reports_of p ms i b) where
  pub proposed_is : r.proposed ≡ any (is2a i b) ms
  proposed_is = ap (λ (s : Reports). s.proposed) of-r

  pub quorum_is : is_plan p ≡ true → r.quorum ≡ is_quorum p.acceptors (λ a. any (is1b i b a) ms)
  quorum_is plan = ap (λ (s : Reports). s.quorum) of-r ∙ rw plan

  pub proposal_is : (val : ℕ) → val ≡ proposal r.vote → accepted (Phase2a i b val) ≡ accepted (Phase2a i b (proposal (highest_report i b ms)))
  proposal_is val e = ap (λ (v : ℕ). accepted (Phase2a i b v)) (e ∙ ap (λ (s : Reports). proposal s.vote) of-r)

  pub count_is : r.count ≡ length ms
  count_is = ap (λ (s : Reports). s.count) of-r
