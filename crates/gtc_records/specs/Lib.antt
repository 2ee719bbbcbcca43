pub mod Genotype
pub mod Snp
pub mod Snps
pub mod Transformation
pub mod Normalise
pub mod Private
