-- So many zeros have that length; the search would count them.
use Rattle.std.proofs.Common.{ℕ, sym}
use Rattle.std.proofs.lemmas.List.{length-replicate}
use Rattle.hex_file.proofs.large_text.Goals as goal

pub returns : goal.returns
returns c = sym (length-replicate {A = ℕ} 524289 0)
