use Rattle.app_manifest.proofs.Lawful.{manifests_lawful}
use Rattle.app_manifest.proofs.text.manifests_are_lawful.Goals as goal

pub returns : goal.returns
returns c = manifests_lawful
