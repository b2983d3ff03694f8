-- `writing::Page::put_byte` meets its contract.
-- Assumes nothing.
use mathlib.Core.Path.{refl}
use Rattle.writing.proofs.Written.{written_one}
use Rattle.writing.proofs.PageLaws.{puts}
use Rattle.writing.proofs.Page.put_byte.Goals as goal

pub returns : goal.returns
returns c = puts c.requires refl refl (written_one _ _ _ c.requires)
