use Rattle.std.proofs.Common.{◌≡◌, ◌<◌, ◌++◌, take, drop, length, arith, ap}
use Rattle.kernel_replay.proofs.KnownReads.{IsReadOut, IsReadOut-from_end, Consumes-kept, Consumes-start, Consumes-then}
use Rattle.kernel_replay.proofs.KnownReads.{take-written}
use Rattle.kernel_replay.proofs.input.read_all.Given.{Over}
use Rattle.kernel_replay.proofs.input.read_all.Goals as goal
use Rattle.kernel_replay.proofs.input.read_all.Goals.{in-Ok+in_ok-append-in-Ok, in-Err+else-ne}

pub reads-init : goal.reads-init
reads-init g c = record {
  taken = Consumes-start (g.R.Read.remaining c.args.reader.now) c.new-octets.result.items c.new-octets.ensures.items;
  room = omega (arith, c.in_ok-piece.ensures.len);
}

-- a read that gave nothing found the end
read_out : (g : Over) (c : goal.After-drop-piece g) → IsReadOut (g.R.Read.remaining c.args.reader.now)
    (g.R.Read.remaining c.read.new.self) c.reads.octets.items
read_out g c =
    let room : 0 < length c.read.new.buf = omega (
      arith,
      c.deref_mut.ensures.len,
      c.reads.invariant.room,
      c.read.auto.buf,
    ) in
    IsReadOut-from_end (g.R.Read.remaining c.args.reader.now) (g.R.Read.remaining c.reads.reader)
    (g.R.Read.remaining c.read.new.self) c.reads.octets.items c.in-Ok-eq0.field-0 c.read.new.buf
    c.reads.invariant.taken c.in-Ok-eq0.ensures.bytes.0 c.in-Ok-eq0.field-0-test
    (c.in-Ok-eq0.ensures.bytes.1 c.in-Ok-eq0.field-0-test room)

pub returns-in-Ok-eq0-clause-all : goal.returns-in-Ok-eq0-clause-all
returns-in-Ok-eq0-clause-all g c = (read_out g c).all

pub returns-in-Ok-eq0-clause-at_end : goal.returns-in-Ok-eq0-clause-at_end
returns-in-Ok-eq0-clause-at_end g c = (read_out g c).at_end

pub reads-preserved : goal.reads-preserved
reads-preserved g c =
    let first = g.R.Read.remaining c.args.reader.now in
    let middle = g.R.Read.remaining c.reads.reader in
    let last = g.R.Read.remaining c.read.new.self in
    let full : length c.read.new.buf ≡ c.reads.piece.len = omega (arith, c.deref_mut.ensures.len, c.read.auto.buf) in
    elim c.match-read.branch [
      | in-Ok+in_ok-append-in-Ok w ↦
          let piece = take w.in-Ok.count c.read.new.buf in
          let same = take-written w.in-Ok.count c.reads.piece.len c.read.new.buf
          (drop (length c.read.new.buf) c.reads.piece.items) w.deref.result.now w.deref.ensures.value full in
          let grown : c.match-read.octets.items ≡ c.reads.octets.items ++ piece =
          cc (same, w.in_ok-append-in-Ok.ensures, w.octets-is) in
          record {
            taken = Consumes-then first middle last c.reads.octets.items piece c.match-read.octets.items
                c.reads.invariant.taken w.in-Ok.ensures.bytes.0 grown;
            room = c.reads.invariant.room;
          }
      | in-Err+else-ne w ↦ record {
        taken = Consumes-kept first middle last c.reads.octets.items c.match-read.octets.items c.reads.invariant.taken
            w.in-Err.ensures.bytes (ap (λ v. v.items) w.octets-is);
        room = c.reads.invariant.room;
      }
    ]
