-- The law, as it is proved.
use Rattle.run_tables.proofs.TableLaws.Lawful.{owns_data_bus, is_refreshed, has_bounded_queues, holds_few_credits, keeps_credits_until}
use Rattle.run_tables.proofs.table_laws.outcomes.outcomes_keep_the_laws.Goals as goal

pub returns : goal.returns
returns c = record { data_bus = owns_data_bus; refreshed = is_refreshed; bounded = has_bounded_queues; held = holds_few_credits; credits = keeps_credits_until }
