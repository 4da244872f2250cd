pub mod CertificateText
pub mod Checked
pub mod Followed
pub mod LawsOfCertificates
