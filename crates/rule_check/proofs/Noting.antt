-- What the loops over banks, groups and ranks make of a channel.
use Rattle.std.proofs.Common.{◌≡◌, ℕ, ◌*◌, ◌/◌, ◌%◌, ◌<◌, ◌∙◌, List, [], length, get_or, replicate, None, sym, ap}
use Rattle.std.specs.Prelude.{Vec}
use Rattle.std.specs.Vec.{with_items}
use Rattle.std.proofs.lemmas.List.{length-replicate, get_or-replicate}
use Rattle.sim_base.specs.declared.config.Config.{Config}
use Rattle.sim_base.specs.Rules.{open_row}
use Rattle.sim_base.proofs.Lists.{with_items_lent}
use Rattle.rule_check.specs.Kept.{nothing, latest_where, no_window, window_from, first_deadline, deadline_from, bank_past, group_past, rank_past, IsKept}
use Rattle.sim_base.specs.Places.{bank_at}
use Rattle.rule_check.specs.declared.state.Bank.{Bank}
use Rattle.rule_check.specs.declared.state.Group.{Group}
use Rattle.rule_check.specs.declared.state.Rank.{Rank}
use Rattle.rule_check.specs.declared.state.Channel.{Channel}

-- a list that a loop changed, element by element
pub items-changed : {X Z : Type 0} (v : Vec X Z) (items lent states : List X) (f : ℕ → X → X) → items ≡ (with_items v states).items → lent ≡ v.items
    → length states ≡ length lent → ((k : ℕ) (d : X) → k < length lent → get_or states k d ≡ f k (get_or lent k d))
    → (length items ≡ length v.items) × ((k : ℕ) (d : X) → k < length v.items → get_or items k d ≡ f k (get_or v.items k d))
items-changed {X} v items lent states f put is long each =
    let all : items ≡ states = put ∙ with_items_lent v lent states is long in (
      ap length all ∙ long ∙ ap length is,
      λ k d l. ap (λ (xs : List X). get_or xs k d) all ∙ each k d (rw is l) ∙ ap (λ (xs : List X). f k (get_or xs k d)) is,
    )

bank-none : (b : ℕ) → bank_past [] (bank_at b) ≡ record { latest = nothing; row = None }
unfolding latest_where open_row
bank-none b = λ i. record { latest = nothing; row = None }

group-none : (rank group : ℕ) → group_past [] rank group ≡ record { within = nothing; across = nothing }
unfolding latest_where
group-none rank group = λ i. record { within = nothing; across = nothing }

rank-none : (s : Config) (rank : ℕ) → rank_past s [] rank ≡ record { within = nothing; across = nothing; window = no_window; deadline = first_deadline s }
unfolding latest_where window_from deadline_from
rank-none s rank = λ i. record { within = nothing; across = nothing; window = no_window; deadline = first_deadline s }

-- a channel with no rows
pub kept-first : (c : Channel) (s : Config) (bank : Bank) (group : Group) (rank : Rank)
    → c.banks.items ≡ replicate (16 * s.ranks) bank → c.groups.items ≡ replicate (4 * s.ranks) group → c.ranks.items ≡ replicate s.ranks rank
    → bank ≡ record { latest = nothing; row = None } → group ≡ record { within = nothing; across = nothing }
    → rank ≡ record { within = nothing; across = nothing; window = no_window; deadline = first_deadline s } → IsKept c s []
kept-first c s bank group rank banks groups ranks b g r =
    record {
      bank_count = ap length banks ∙ length-replicate (16 * s.ranks) bank;
      group_count = ap length groups ∙ length-replicate (4 * s.ranks) group;
      rank_count = ap length ranks ∙ length-replicate s.ranks rank;
      banks = λ k d l. ap (λ (xs : List Bank). get_or xs k d) banks ∙ get_or-replicate (16 * s.ranks) k bank d l ∙ b ∙ sym (bank-none k);
      groups = λ k d l. ap (λ (xs : List Group). get_or xs k d) groups ∙ get_or-replicate (4 * s.ranks) k group d l ∙ g ∙ sym (group-none (k / 4) (k % 4));
      ranks = λ k d l. ap (λ (xs : List Rank). get_or xs k d) ranks ∙ get_or-replicate s.ranks k rank d l ∙ r ∙ sym (rank-none s k);
    }
