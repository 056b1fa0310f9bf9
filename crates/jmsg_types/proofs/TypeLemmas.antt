-- The table of requests, row by row.
use Rattle.std.proofs.Common.{codes, refl, sym}
use Rattle.std.proofs.lemmas.Option.{same_Some}
use Rattle.jmsg_types.specs.Laws.{EachTypeIsFound, RepliesAreNamedForRequests}
use Rattle.jmsg_types.specs.declared.message_type.MessageType.TheVariants.{KernelInfoRequest, ExecuteRequest}
use Rattle.jmsg_types.specs.declared.message_type.MessageType.TheVariants.{CompleteRequest, InspectRequest}
use Rattle.jmsg_types.specs.declared.message_type.MessageType.TheVariants.{IsCompleteRequest, HistoryRequest}
use Rattle.jmsg_types.specs.declared.message_type.MessageType.TheVariants.{CommInfoRequest, CommOpen, CommMsg}
use Rattle.jmsg_types.specs.declared.message_type.MessageType.TheVariants.{CommClose, ShutdownRequest}
use Rattle.jmsg_types.specs.declared.message_type.MessageType.TheVariants.{InterruptRequest}

-- each name computes
pub found : EachTypeIsFound
found KernelInfoRequest = refl
found ExecuteRequest = refl
found CompleteRequest = refl
found InspectRequest = refl
found IsCompleteRequest = refl
found HistoryRequest = refl
found CommInfoRequest = refl
found CommOpen = refl
found CommMsg = refl
found CommClose = refl
found ShutdownRequest = refl
found InterruptRequest = refl

-- each pair of names has its stem
pub replied : RepliesAreNamedForRequests
replied KernelInfoRequest name e = (codes "kernel_info", refl, sym (same_Some _ _ e))
replied ExecuteRequest name e = (codes "execute", refl, sym (same_Some _ _ e))
replied CompleteRequest name e = (codes "complete", refl, sym (same_Some _ _ e))
replied InspectRequest name e = (codes "inspect", refl, sym (same_Some _ _ e))
replied IsCompleteRequest name e = (codes "is_complete", refl, sym (same_Some _ _ e))
replied HistoryRequest name e = (codes "history", refl, sym (same_Some _ _ e))
replied CommInfoRequest name e = (codes "comm_info", refl, sym (same_Some _ _ e))
replied CommOpen name e = cc
replied CommMsg name e = cc
replied CommClose name e = cc
replied ShutdownRequest name e = (codes "shutdown", refl, sym (same_Some _ _ e))
replied InterruptRequest name e = (codes "interrupt", refl, sym (same_Some _ _ e))
