-- No folder of a URN has a name of dots.
use Rattle.std.proofs.Common.{◌≡◌, ◌++◌, refl, sym, ap, ◌∙◌, codes}
use Rattle.aff_spec.specs.Names.{folder_name}
use Rattle.aff_spec.proofs.Names.{apart_by}
use Rattle.aff_names.specs.Laws.{FoldersAreNoDots}

-- the folder of a text with the scheme begins with `a`
pub folders_are_no_dots : FoldersAreNoDots
folders_are_no_dots urn is_urn =
    let named : folder_name urn ≡ codes "aff4%3A%2F%2F" ++ folder_name (is_urn.uuid ++ is_urn.path) = ap folder_name is_urn.is in (
      λ e. apart_by _ (codes ".") refl (sym named ∙ e),
      λ e. apart_by _ (codes "..") refl (sym named ∙ e),
    )
