-- What the reader stands for.
use Rattle.manifest_section.specs.ManifestLines.{begun_of}
use Rattle.paper.specs.Readings.{Stage, start, in_manifest, in_entries, entries_of}
use Rattle.paper.specs.declared.reader.Reader.{Reader}
use Rattle.paper.specs.declared.reader.Reader.TheVariants as readers

abbrev pub stage_of : Reader → Stage
stage_of readers.Start = start
stage_of (readers.Manifest d) = in_manifest (begun_of d)
stage_of (readers.Entries e) = in_entries (entries_of e)
