-- `votes::are_votes` meets its contract: the bytes that are left are votes exactly when all are. Assumes nothing.
use Rattle.std.proofs.Common.{ℕ, ◌≡◌, List, rules, tests, arith, ◌∙◌, ap, Bor}
use Rattle.std.proofs.lemmas.Iterator.Search.{all_from_yields_List}
use Rattle.std.proofs.lemmas.Iterator.Splits.{YieldsList-from_shown_while}
use Rattle.std.specs.Slice.Iter.{chunks_exact_rest, chunks_exact_size, chunks_exact_steps}
use Rattle.votes.specs.Votes.{are_votes}
use Rattle.votes.specs.Votes.Laws.{places, in_order, are_votes_places, places_none, places_next}
use Rattle.votes.proofs.are_votes.Goals as goal

pub returns : goal.returns
returns c =
    all_from_yields_List in_order _ _ _ c.all.ensures.ran
    (YieldsList-from_shown_while (chunks_exact_steps {A = ℕ}) (λ (x : Bor (List ℕ)). x.now) (λ s. places (chunks_exact_rest s)) (λ s. chunks_exact_size s ≡ 3)
    (λ s t p h. places_none _ (omega (arith, h.1.0, p)))
    (λ s x t p h. (h.0 ∙ p, ap places h.1.0 ∙ places_next _ _ (h.1.1 ∙ p))) c.chunks_exact.result c.chunks_exact.ensures.size)
    (λ x r q k. search (rules, tests))
    ∙ are_votes_places _ ∙ ap are_votes c.chunks_exact.ensures.rest ∙ c.after_blocks.ensures
