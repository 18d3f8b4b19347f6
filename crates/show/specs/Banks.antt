-- What the screen has of the banks.
--     banks_head channel count      the lines above the banks of a channel
--     bank_label id, bank_line counts      the line of a bank
--     banks_text channel counts      the banks of a channel
--     all_banks_text commands channels      those of the channels below a number, one after the other
--     IsBanksScreen stats commands options machine text      the screen of a run, and its banks below it
use Rattle.std.specs.Prelude.{◌≡◌, ℕ, List, ◌++◌, length, flat_map, codes, decimal, Option}
use Rattle.measures.specs.Banks.{channel_counts}
use Rattle.measures.specs.declared.bank_counts.counts.BankCounts.{BankCounts}
use Rattle.sim_base.specs.History.{below}
use Rattle.sim_base.specs.declared.command.IssuedCommand.{IssuedCommand}
use Rattle.sim_base.specs.declared.config.Config.{Config}
use Rattle.sim_base.specs.declared.place.BankId.{BankId}
use Rattle.statistics.specs.Values.{RunStats}
use Rattle.show.specs.Rows.{bank_headings, bank_row}
use Rattle.show.specs.Screen.{IsScreen}
use Rattle.show.specs.Tables.{headings_text, row_text}
use Rattle.show.specs.declared.options.Options.{Options}

-- the lines above the banks of a channel, which say how many there are
abbrev pub banks_head : ℕ → ℕ → List ℕ
banks_head channel count =
    codes "\nBanks of channel " ++ decimal channel
    ++ codes " (" ++ decimal count ++ codes "): row hits in % of rd and wr\n"

-- what stands before the numbers of a bank
abbrev pub bank_label : BankId → List ℕ
bank_label id = codes "r" ++ decimal id.rank ++ codes " g" ++ decimal id.group ++ codes " b" ++ decimal id.bank

-- the line of a bank
abbrev pub bank_line : BankCounts → List ℕ
bank_line counts = row_text bank_headings (bank_label counts.bank) (bank_row counts)

-- the banks of a channel that a command names, by rank, group and bank: how many there are, and a line for each
unfoldable pub banks_text : ℕ → List BankCounts → List ℕ
banks_text channel counts =
    banks_head channel (length counts) ++ headings_text (codes "bank") bank_headings ++ flat_map bank_line counts

-- the banks of the channels below a number, one channel after the other
abbrev pub all_banks_text : List IssuedCommand → ℕ → List ℕ
all_banks_text commands channels =
    flat_map (λ channel. banks_text channel (channel_counts channel commands)) (below channels)

-- the screen of a run, and below it the banks of each channel
pub record IsBanksScreen (stats : RunStats) (commands : List IssuedCommand) (options : Options)
    (machine : Option Config) (text : List ℕ) : Type 0 where
  pub above : List ℕ
  pub screen : IsScreen stats options machine above
  pub text_is : text ≡ above ++ all_banks_text commands (length stats.channels)
