-- Answers of a folder, as answers of a stream's reader: each is told as what it is.
use Rattle.aff_outside.specs.declared.folder.FolderError.{FolderError}
use Rattle.aff_outside.specs.declared.folder.FolderError.TheVariants as folder
use Rattle.aff_bevvy.specs.declared.error.StreamError.{StreamError}
use Rattle.aff_bevvy.specs.declared.error.StreamError.TheVariants.{Failed, Memory}

abbrev pub of_folder : FolderError → StreamError
of_folder folder.Failed = Failed
of_folder folder.Memory = Memory
