-- One name for every word that a computation on literal states opens: `unfolding kernel_on_literals`.
use Rattle.std.specs.Prelude.{⊤}
use Rattle.kernel_types.specs.Applications.{started, application_ended, finish, exit}
use Rattle.kernel_types.specs.Connects.{connect, connect_decision, accept}
use Rattle.kernel_types.specs.Device.{device_step}
use Rattle.kernel_types.specs.Events.{chain_limit, events_of}
use Rattle.kernel_types.specs.Facts.{is_at_end}
use Rattle.kernel_types.specs.Handles.{set_cookie, close, dup}
use Rattle.kernel_types.specs.Kernel.{step_limit}
use Rattle.kernel_types.specs.Memories.{new_memory, mem_create, mem_read, mem_write}
use Rattle.kernel_types.specs.Messages.{send, free_id, get, read, put}
use Rattle.kernel_types.specs.Names.{naming}
use Rattle.kernel_types.specs.Opening.{opening}
use Rattle.kernel_types.specs.Ports.{admitted, port_create}
use Rattle.kernel_types.specs.Reach.{reached_by}
use Rattle.kernel_types.specs.Reports.{report_of}
use Rattle.kernel_types.specs.Scripts.{empty_registers, call_of, registers_after, script_begin, next_call, answered, calls_of}
use Rattle.kernel_types.specs.Sets.{set_create, is_or_contains, chain_through, set_add, set_del, set_mod}
use Rattle.kernel_types.specs.CoreStep.{act, core_begin, core_resume, least_deadline, core_idle}
use Rattle.kernel_types.specs.Step.{statuses, client_begin, client_resume, device_has_work, client_movable, movable, idle_lawful, next_deadline, world_idle, step}
use Rattle.kernel_types.specs.Stories.{story_of}
use Rattle.kernel_types.specs.Sweep.{pruned, kept, sweep}
use Rattle.kernel_types.specs.Tables.{is_full, has_room, free_handle}
use Rattle.kernel_types.specs.Turns.{event_of, run_by, replay_of, next_turn, history_limit, serial_turns}
use Rattle.kernel_types.specs.Waits.{wait, wait_any, end_of_wait, thread_movable}
use Rattle.kernel_types.specs.Whole.{calls_in, answers_in}
use Rattle.tipc_proto.specs.Names.{name_field, name_in}
use Rattle.tipc_proto.specs.Frames.{header, frame_in}
use Rattle.tipc_proto.specs.Controls.{message, answer_body, leave_body, body_in, control_in}
use Rattle.virtqueue.specs.Layout.{written_at, available_idx, available_head, used_pushed, published}
use Rattle.virtqueue.specs.Bytes.{addresses, room, bytes_at, stored}
use Rattle.virtqueue.specs.Chains.{descriptor_at, broken, link_of, fault_of, stops, last_of, parts_from, chain}
use Rattle.kernel_types.specs.Bridge.{ns_connect, ns_view, ns_peek, ns_push, ns_take, ns_drop}
use Rattle.kernel_types.specs.Carried.{offered_in, drained_in, given_in, taken_in}
use Rattle.kernel_types.specs.Clients.{send_frame, ns_connect_call, ns_send_call, answer_of_wait, ns_recv_call, ns_close_call, ns_poke_call, ns_kick_call, ns_act, end_of_ns_wait}
use Rattle.kernel_types.specs.Device.{due_of, entry_limit, refusal_limit, free_secure, take_frame, take_step}
use Rattle.kernel_types.specs.Drains.{delivered, drained_frames, to_normal_drained, from_normal_drained}
use Rattle.kernel_types.specs.Errors.{error_of}
use Rattle.kernel_types.specs.GuestMemory.{memory_size, read_at, given, with_frame, new_elements}
use Rattle.kernel_types.specs.Sending.{frame}

unfoldable pub kernel_on_literals : ⊤
unfolding started application_ended finish exit connect connect_decision accept chain_limit events_of is_at_end set_cookie close dup step_limit new_memory mem_create mem_read mem_write send free_id get read put naming opening admitted port_create reached_by report_of empty_registers call_of registers_after script_begin next_call answered calls_of set_create is_or_contains chain_through set_add set_del set_mod act core_begin core_resume statuses client_begin client_resume device_step device_has_work client_movable movable idle_lawful least_deadline core_idle next_deadline world_idle step story_of pruned kept sweep is_full has_room free_handle event_of run_by replay_of next_turn history_limit serial_turns wait wait_any end_of_wait thread_movable calls_in answers_in
kernel_on_literals = tt

-- The words of frames, rings and the normal world's driver, beside those above, but for the memory that a scene begins with,
-- which is too long to be written out.
unfoldable pub world_on_literals : ⊤
unfolding name_field name_in header frame_in message answer_body leave_body body_in control_in written_at available_idx available_head used_pushed published addresses room bytes_at stored descriptor_at broken link_of fault_of stops last_of parts_from chain ns_connect ns_view ns_peek ns_push ns_take ns_drop offered_in drained_in given_in taken_in send_frame ns_connect_call ns_send_call answer_of_wait ns_recv_call ns_close_call ns_poke_call ns_kick_call ns_act end_of_ns_wait due_of entry_limit refusal_limit free_secure take_frame take_step delivered drained_frames to_normal_drained from_normal_drained error_of memory_size read_at given with_frame new_elements frame
world_on_literals = tt
