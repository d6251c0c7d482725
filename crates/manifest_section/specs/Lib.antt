pub mod ManifestLines
