-- Changes of an end that leave which objects its messages name.
use Rattle.std.proofs.Common.{◌≡◌, ℕ, List, [], ◌∷◌, ◌++◌, map, refl, ap, ◌∙◌}
use Rattle.std.specs.List.{position_or_len}
use Rattle.kernel_values.specs.declared.state.Body.{Body}
use Rattle.kernel_values.specs.declared.state.Body.TheVariants as body
use Rattle.kernel_values.specs.declared.state.ChannelEnd.{ChannelEnd}
use Rattle.kernel_values.specs.declared.flags.Events.{Events}
use Rattle.kernel_values.specs.declared.state.Member.{Member}
use Rattle.kernel_values.specs.declared.state.MemoryRef.{MemoryRef}
use Rattle.kernel_values.specs.declared.state.Message.{Message}
use Rattle.kernel_types.specs.Events.{is_filled}
use Rattle.kernel_types.specs.Messages.{opened_as}
use Rattle.kernel_types.specs.Names.{message_objects, named_in}
use Rattle.kernel_types.specs.Objects.{map_at, on_end, on_memory, on_set}
use Rattle.kernel_types.specs.Sets.{has_label, remasked, with_mask}
use Rattle.kernel_laws.proofs.Mapped.{map_at_same}
use Rattle.counted_core.specs.EndChanges.{end_after}
use Rattle.counted_core.specs.declared.ends.EndChange.{EndChange}
use Rattle.counted_core.specs.declared.ends.EndChange.TheVariants as change

parts_alike : (one other : List Message) → map (λ (m : Message). m.parts) one ≡ map (λ (m : Message). m.parts) other → message_objects one ≡ message_objects other
parts_alike [] [] same = refl
parts_alike (m ∷ one) [] same = absurd (cc)
parts_alike [] (n ∷ other) same = absurd (cc)
parts_alike (m ∷ one) (n ∷ other) same =
    let first : m.parts ≡ n.parts = cc in
    let rest : map (λ (x : Message). x.parts) one ≡ map (λ (x : Message). x.parts) other = cc in
    ap (λ l. l ++ message_objects one) first ∙ ap (λ l. n.parts ++ l) (parts_alike one other rest)

opened_names : (id at : ℕ) (messages : List Message) → message_objects (map_at (opened_as id) messages at) ≡ message_objects messages
opened_names id at messages = parts_alike (map_at (opened_as id) messages at) messages (map_at_same (λ (m : Message). m.parts) (opened_as id) (λ m. refl) messages at)

end_names : (how : EndChange) (end : ChannelEnd) → message_objects (end_after how end).messages ≡ message_objects end.messages
end_names change.Block end = refl
end_names change.Unblock end = refl
end_names change.Decide end = refl
end_names (change.Report events) end = refl
end_names change.Fail end = refl
end_names (change.Accept ready) end = refl
end_names (change.Open id) end = opened_names id (position_or_len is_filled end.messages) end.messages

pub quiet_names : (how : EndChange) (b : Body) → named_in (on_end (end_after how) b) ≡ named_in b
quiet_names how (body.Port port) = refl
quiet_names how (body.End end) = end_names how end
quiet_names how (body.Set set) = refl
quiet_names how (body.Memory memory) = refl

-- A change of a memory reference names nothing, before and after.
pub memory_names : (change : MemoryRef → MemoryRef) (b : Body) → named_in (on_memory change b) ≡ named_in b
memory_names change (body.Port port) = refl
memory_names change (body.End end) = refl
memory_names change (body.Set set) = refl
memory_names change (body.Memory memory) = refl

remasked_objects : (mask : Events) (cookie at : ℕ) (members : List Member) → map (λ (m : Member). m.object) (map_at (with_mask mask cookie) members at) ≡ map (λ (m : Member). m.object) members
remasked_objects mask cookie at members = map_at_same (λ (m : Member). m.object) (with_mask mask cookie) (λ m. refl) members at

pub remasked_names : (label : ℕ) (mask : Events) (cookie : ℕ) (b : Body) → named_in (on_set (remasked label mask cookie) b) ≡ named_in b
remasked_names label mask cookie (body.Port port) = refl
remasked_names label mask cookie (body.End end) = refl
remasked_names label mask cookie (body.Set set) = remasked_objects mask cookie (position_or_len (has_label label) set.members) set.members
remasked_names label mask cookie (body.Memory memory) = refl
