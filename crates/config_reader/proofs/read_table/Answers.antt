use Rattle.std.proofs.Common.{refl}
use Rattle.config_reader.proofs.read_table.Goals as goal

pub into_config-requires : goal.into_config-requires
into_config-requires c = (c.in_ok-check_relations.ensures {u = tt}).related.0 refl
