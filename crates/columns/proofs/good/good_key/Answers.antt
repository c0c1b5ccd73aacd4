-- `good_key` counts the key's bytes.
use Rattle.columns.proofs.KeyBytes.{key-alone}
use Rattle.columns.proofs.good.good_key.Goals as goal

pub returns : goal.returns
returns c = key-alone _ _ c.key_bytes.result c.key_bytes.ensures
