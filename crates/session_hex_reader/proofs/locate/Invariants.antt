-- What is left counts on from here.
use Rattle.std.proofs.Common.{drop, take, ◌+◌, ◌≡◌, ◌≤◌}
use Rattle.hexes.specs.Reading.{spot_from, spot_of}
use Rattle.session_hex_reader.proofs.locate.Given as goal

abbrev pub invariant-loop-c : goal.invariant-loop-c
invariant-loop-c l =
    (l.line ≤ l.c-index + 1) × (l.column ≤ l.c-index + 1) × (spot_from l.line l.column (drop l.c-index l.c-items) ≡ spot_of (take l.at l.text))
