-- Requests and commands without where their text lies.
use Rattle.command_words.specs.Words as W
use Rattle.fip_room.specs.declared.room.Room.{Room}
use Rattle.command_words.specs.declared.words.RunRequest.{RunRequest}
use Rattle.command_words.specs.declared.words.Command.{Command}
use Rattle.command_words.specs.declared.words.Command.TheVariants as C

abbrev pub room_of : Room → W.Room
room_of r = record { calls = r.calls; frames = r.frames; words = r.words }

abbrev pub request_of : RunRequest → W.Request
request_of r = record { file = r.file.now; entry = r.entry.now; room = room_of r.room; gauge = r.gauge }

abbrev pub command_of : Command → W.Command
command_of (C.Check file) = W.Check file.now
command_of (C.Compile file out) = W.Compile file.now out.now
command_of (C.Verify file) = W.Verify file.now
command_of (C.Upgrade file out) = W.Upgrade file.now out.now
command_of (C.Exec r) = W.Exec (request_of r)
command_of (C.Run r) = W.Run (request_of r)
command_of (C.Eval file entry room) = W.Eval file.now entry.now room.calls room.frames
command_of (C.Trace file entry out room) = W.Trace file.now entry.now out.now (room_of room)
command_of (C.Session file room) = W.Session file.now (room_of room)
command_of (C.Tasks file seed turns room) = W.Tasks file.now seed turns (room_of room)
command_of (C.Derive file out) = W.Derive file.now out.now
command_of (C.Audit file proof) = W.Audit file.now proof.now
command_of (C.Replay trace step) = W.Replay trace.now step
command_of (C.Library name) = W.Library name.now
command_of (C.Gen seed count) = W.Gen seed count
