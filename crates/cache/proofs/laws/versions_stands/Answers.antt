-- Sixteen numbers tell versions apart.
use Rattle.cache.proofs.Theorems.{sixteen_tell}
use Rattle.cache.proofs.Stored.{find_is_exact}
use Rattle.cache.proofs.laws.versions_stands.Goals as goal

pub returns : goal.returns
returns c = record { tell = sixteen_tell; exact = find_is_exact }
