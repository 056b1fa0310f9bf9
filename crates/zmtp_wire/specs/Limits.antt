-- How much a peer may send.
use Rattle.zmtp_wire.specs.declared.traffic.limits.Limits.{Limits}

-- the limits of the kernel: 16 MiB a frame, 64 frames a message, 32 MiB a message
abbrev pub usual_limits : Limits
usual_limits = record { frame = 16777216; frames = 64; message = 33554432 }
