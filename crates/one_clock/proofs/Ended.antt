-- The state in which a channel is left.
use Rattle.std.proofs.Common.{◌≡◌, ℕ, List, length, map, sym, ap, ◌∙◌}
use Rattle.std.specs.Prelude.{filter_map}
use Rattle.sim_base.specs.declared.config.Config.{Config}
use Rattle.sim_base.specs.declared.message.Request.{Request}
use Rattle.sim_base.specs.declared.message.Unit.TheVariants.{Channel}
use Rattle.sim_base.specs.declared.trace.Entry.{Entry}
use Rattle.sim_base.specs.Final.{due_left, banks, queue_left}
use Rattle.sim_base.specs.History.{below, steps_of_channel, issued_commands, inbox}
use Rattle.sim_base.specs.Machine.{run}
use Rattle.sim_base.specs.Scheduling.{due}
use Rattle.sim_base.proofs.Spans.{length_run}
use Rattle.statistics.specs.Runs.{open_row_of_bank, open_rows_left, channel_final, final_of_channel}
use Rattle.statistics.specs.Values.{FinalChannel}
use Rattle.statistics.proofs.Replies.{length-steps_of_channel}
use Rattle.plain_steps.specs.Plain.{ChannelView, channel_view, queue_of}
use Rattle.one_clock.proofs.Next.{waiting_is}

pub channel_left_is : (s : Config) (traces : List (List Entry)) (n channel : ℕ) (view : ChannelView) → view ≡ channel_view s traces (run s traces n) channel
    → final_of_channel s traces (run s traces n) channel
    ≡ record {
      due = map (λ rank. due s rank view.commands n) (below s.ranks);
      open_rows = filter_map (open_row_of_bank view.commands) (banks s);
      queue = queue_of view.pending n;
    }
unfolding final_of_channel channel_final due_left open_rows_left queue_left
channel_left_is s traces n channel view e =
    let make : ℕ → ChannelView → FinalChannel = λ i v. record {
      due = map (λ rank. due s rank v.commands i) (below s.ranks);
      open_rows = filter_map (open_row_of_bank v.commands) (banks s);
      queue = queue_of v.pending i;
    } in
    let past_steps = steps_of_channel channel (run s traces n) in
    let h = issued_commands channel past_steps in
    let mail = inbox s traces (run s traces n) (Channel channel) in
    let with_queue : List Request → FinalChannel = λ q. record {
      due = map (λ rank. due s rank h (length past_steps)) (below s.ranks);
      open_rows = filter_map (open_row_of_bank h) (banks s);
      queue = q;
    } in
    ap with_queue (waiting_is h mail (length past_steps))
    ∙ ap (λ i. make i (channel_view s traces (run s traces n) channel)) (length-steps_of_channel channel (run s traces n) ∙ length_run s traces n)
    ∙ ap (make n) (sym e)
